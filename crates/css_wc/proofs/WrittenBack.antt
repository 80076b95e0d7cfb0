-- What was read is written back, but for the reserved byte.
use Rattle.std.proofs.Common.{◌≡◌, ℕ, ◌+◌, ◌*◌, ◌/◌, ◌%◌, ◌<◌, ◌≤◌, arith, ap, sym, ◌∙◌, List, [], ◌∷◌, ◌++◌, length}
use Rattle.std.proofs.Common.{drop, slice_index, slice_set}
use Rattle.std.specs.Prelude.{All}
use Rattle.std.specs.Int.{w8, cast_signed, cast_unsigned}
use Rattle.std.proofs.lemmas.Int.{of_z-to_z}
use Rattle.std.proofs.lemmas.List.{drop-drop, drop_all, length-drop}
use Rattle.std.proofs.lemmas.List.Elements.{All-drop}
use Rattle.byteorder.specs.Endian.{big_bytes}
use Rattle.css_model.specs.Wire.{encoded, fields, number_in, stamp_in, stamp_bytes}

abbrev AreBytes : List ℕ → Type 0
AreBytes xs = All (λ b. b < 256) xs

four_bytes : (a b c d : ℕ) → a < 256 → b < 256 → c < 256 → d < 256
    → big_bytes 4 (a * 16777216 + (b * 65536 + (c * 256 + (d * 1 + 0)))) ≡ a ∷ b ∷ c ∷ d ∷ []
four_bytes a b c d ha hb hc hd =
    let n = a * 16777216 + (b * 65536 + (c * 256 + (d * 1 + 0))) in
    let ea : n / 16777216 % 256 ≡ a = omega arith in
    let eb : n / 65536 % 256 ≡ b = omega arith in
    let ec : n / 256 % 256 ≡ c = omega arith in
    let ed : n % 256 ≡ d = omega arith in
    ap (λ x. x ∷ (n / 65536 % 256) ∷ (n / 256 % 256) ∷ (n % 256) ∷ []) ea
    ∙ ap (λ x. a ∷ x ∷ (n / 256 % 256) ∷ (n % 256) ∷ []) eb
    ∙ ap (λ x. a ∷ b ∷ x ∷ (n % 256) ∷ []) ec
    ∙ ap (λ x. a ∷ b ∷ c ∷ x ∷ []) ed

-- the number in the first four bytes, and what follows
number_first : (xs : List ℕ) → 4 ≤ length xs → AreBytes xs → xs ≡ big_bytes 4 (number_in xs) ++ drop 4 xs
number_first [] long bytes = absurd (omega arith)
number_first (a ∷ []) long bytes = absurd (omega arith)
number_first (a ∷ b ∷ []) long bytes = absurd (omega arith)
number_first (a ∷ b ∷ c ∷ []) long bytes = absurd (omega arith)
number_first (a ∷ b ∷ c ∷ d ∷ rest) long bytes =
    ap (λ ys. ys ++ rest)
    (sym
    (four_bytes a b c d (bytes 0 0 (omega arith)) (bytes 1 0 (omega arith)) (bytes 2 0 (omega arith))
    (bytes 3 0 (omega arith))))

-- the time in the first eight bytes, and what follows
stamp_first : (xs : List ℕ) → 8 ≤ length xs → AreBytes xs → xs ≡ stamp_bytes (stamp_in xs) ++ drop 8 xs
stamp_first xs long bytes =
    let seconds = number_first xs (omega arith) bytes in
    let nanoseconds = number_first (drop 4 xs) (omega (arith, length-drop 4 xs)) (All-drop (λ b. b < 256) 4 xs bytes) in
    seconds ∙ ap (λ ys. big_bytes 4 (number_in xs) ++ ys)
    (nanoseconds ∙ ap (λ ys. big_bytes 4 (number_in (drop 4 xs)) ++ ys) (drop-drop 4 4 xs))

times_last : (xs : List ℕ) → length xs ≡ 28 → AreBytes xs
    → xs ≡ big_bytes 4 (number_in xs)
    ++ (stamp_bytes (stamp_in (drop 4 xs))
    ++ (stamp_bytes (stamp_in (drop 12 xs)) ++ stamp_bytes (stamp_in (drop 20 xs))))
times_last xs long bytes =
    let originate =
    stamp_first (drop 4 xs) (omega (arith, length-drop 4 xs)) (All-drop (λ b. b < 256) 4 xs bytes) ∙ ap (λ ys.
    stamp_bytes (stamp_in (drop 4 xs)) ++ ys) (drop-drop 8 4 xs) in
    let receive =
    stamp_first (drop 12 xs) (omega (arith, length-drop 12 xs)) (All-drop (λ b. b < 256) 12 xs bytes) ∙ ap (λ ys.
    stamp_bytes (stamp_in (drop 12 xs)) ++ ys) (drop-drop 8 12 xs) in
    let transmit =
    stamp_first (drop 20 xs) (omega (arith, length-drop 20 xs)) (All-drop (λ b. b < 256) 20 xs bytes) ∙ ap (λ ys.
    stamp_bytes (stamp_in (drop 20 xs)) ++ ys) (drop-drop 8 20 xs ∙ drop_all 28 xs (omega arith)) in
    number_first xs (omega arith) bytes
    ∙ ap (λ ys. big_bytes 4 (number_in xs) ++ ys)
    (originate ∙ ap (λ ys. stamp_bytes (stamp_in (drop 4 xs)) ++ ys)
    (receive ∙ ap (λ ys. stamp_bytes (stamp_in (drop 12 xs)) ++ ys) transmit))

-- what the fields of version 0 are written as
pub encoded-fields : (xs : List ℕ) → length xs ≡ 32 → AreBytes xs → slice_index xs 0 ≡ 0
    → encoded (fields xs) ≡ slice_set xs 3 0
unfolding encoded fields
encoded-fields [] long bytes version = absurd (omega arith)
encoded-fields (v ∷ []) long bytes version = absurd (omega arith)
encoded-fields (v ∷ t ∷ []) long bytes version = absurd (omega arith)
encoded-fields (v ∷ t ∷ p ∷ []) long bytes version = absurd (omega arith)
encoded-fields (v ∷ t ∷ p ∷ r ∷ rest) long bytes version =
    let precision : cast_unsigned w8 (cast_signed w8 p) ≡ p = of_z-to_z w8 p (bytes 2 0 (omega arith)) in
    let times = times_last rest (omega arith) (All-drop (λ b. b < 256) 4 (v ∷ t ∷ p ∷ r ∷ rest) bytes) in
    ap (λ x. 0 ∷ t ∷ x ∷ 0
    ∷ (big_bytes 4 (number_in rest)
    ++ (stamp_bytes (stamp_in (drop 4 rest))
    ++ (stamp_bytes (stamp_in (drop 12 rest)) ++ stamp_bytes (stamp_in (drop 20 rest)))))) precision
    ∙ ap (λ ys. 0 ∷ t ∷ p ∷ 0 ∷ ys) (sym times)
    ∙ ap (λ x. x ∷ t ∷ p ∷ 0 ∷ rest) (sym version)
