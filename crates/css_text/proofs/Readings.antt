-- the reading of bytes, from what `from_slice` ensures
use Rattle.std.proofs.Common.{◌≡◌, ℕ, List, Bool, true, false, Option, Some, None, refl, cond}
use Rattle.std.specs.Str.{is_utf8, IsUtf8}
use Rattle.std.proofs.lemmas.Str.{IsUtf8-from_is_utf8, is_utf8-from_IsUtf8}
use Rattle.serde_json.specs.Data.{Data}
use Rattle.serde_json.specs.Read.{read}
use Rattle.css_text.specs.Readings.{reading}

-- bytes in UTF-8 that read as a value have that reading
pub reading_found : (bytes : List ℕ) (d : Data) → IsUtf8 bytes → read bytes ≡ Some d → reading bytes ≡ Some d
unfolding reading
reading_found bytes d utf8 e = rw (is_utf8-from_IsUtf8 bytes utf8) e

-- a choice whose first branch is nothing
none_by : (b : Bool) (r : Option Data) → (b ≡ true → r ≡ None) → cond b r None ≡ None
none_by true r h = h refl
none_by false r h = refl

-- bytes that read as nothing where they are UTF-8 have no reading
pub reading_none : (bytes : List ℕ) → (IsUtf8 bytes → read bytes ≡ None) → reading bytes ≡ None
unfolding reading
reading_none bytes h = none_by (is_utf8 bytes) (read bytes) (λ e. h (IsUtf8-from_is_utf8 bytes e))
