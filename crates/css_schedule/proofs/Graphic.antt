-- Words of bytes from `!` to `~` are UTF-8.
use Rattle.std.proofs.Common.{◌≡◌, ℕ, ◌<◌, arith, refl, Bool, true, false, List, [], ◌∷◌, length}
use Rattle.std.specs.Prelude.{◌&&◌, not, nat_le, ◌==◌, bytes_eq, codes, if◌then◌else◌}
use Rattle.std.specs.List.{list_all}
use Rattle.std.specs.Str.{IsUtf8, IsAscii}
use Rattle.std.proofs.lemmas.Str.{IsUtf8-from_ascii}
use Rattle.std.proofs.lemmas.Str.Ascii.{IsAscii-nil, IsAscii-cons}
use Rattle.css_schedule.specs.Words.{is_graphic, is_word}
use Rattle.css_schedule.specs.Headers.{stem_of}

-- two truths at once
pub both : (a b : Bool) → (a && b) ≡ true → (a ≡ true) × (b ≡ true)
both true b h = (refl, h)
both false b h = absurd (cc)

-- such a byte is ASCII
graphic-ascii : (byte : ℕ) → is_graphic byte ≡ true → byte < 128
graphic-ascii byte h =
    let high : nat_le byte 126 ≡ true = (both (nat_le 33 byte) (nat_le byte 126) h).1 in grind (arith, high)

-- so are such bytes
all-ascii : (bytes : List ℕ) → list_all is_graphic bytes ≡ true → IsAscii bytes
all-ascii [] h = IsAscii-nil
all-ascii (byte ∷ bytes) h =
    let parts = both (is_graphic byte) (list_all is_graphic bytes) h in
    IsAscii-cons byte bytes (graphic-ascii byte parts.0) (all-ascii bytes parts.1)

-- and they are UTF-8
pub graphic-utf8 : (bytes : List ℕ) → list_all is_graphic bytes ≡ true → IsUtf8 bytes
graphic-utf8 bytes h = IsUtf8-from_ascii bytes (all-ascii bytes h)

-- a word is
pub word-utf8 : (word : List ℕ) → is_word word ≡ true → IsUtf8 word
word-utf8 word h = graphic-utf8 word (both (not (length word == 0)) (list_all is_graphic word) h).1

-- and the stem that it stands for
pub stem-utf8 : (word : List ℕ) → IsUtf8 word → IsUtf8 (stem_of word)
stem-utf8 word h =
    elim (bytes_eq word (codes "-")) as (λ b. IsUtf8 (if b then [] else word)) [
      | true ↦ IsUtf8-from_ascii [] IsAscii-nil
      | false ↦ h
    ]
