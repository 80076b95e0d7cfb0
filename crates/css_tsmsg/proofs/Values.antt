-- The number that digits write, one digit after another.
use Rattle.std.proofs.Common.{◌≡◌, ℕ, ◌+◌, ◌-◌, ◌*◌, ◌^◌, ◌<◌, ◌≤◌, true, false, List, [], ◌∷◌, length, take, get_or}
use Rattle.std.proofs.Common.{ap, ◌∙◌, arith}
use Rattle.std.proofs.lemmas.Bool.{and_parts, leb-true}
use Rattle.std.proofs.lemmas.Int.Digits.{digits_value_more}
use Rattle.std.proofs.lemmas.Str.{digit_value_digit}
use Rattle.std.proofs.lemmas.Str.Parse.{digit_at, digits_value_short, numerals_by_value, tells_digits}
use Rattle.std.proofs.lemmas.Str.Parse.{digits_value-take-le}
use Rattle.std.proofs.lemmas.List.{take_all}
use Rattle.std.specs.List.{list_all}
use Rattle.std.specs.Char.{is_ascii_digit}
use Rattle.std.specs.Str.Parse.{AllDigits, digits_value}
use Rattle.css_tsmsg.specs.Times.{is_wall, has_minus, without_minus}

-- bytes that pass the test are digits
all_digits : (ds : List ℕ) → list_all is_ascii_digit ds ≡ true → AllDigits 10 ds
all_digits [] h = tt
all_digits (d ∷ ds) h =
    let p : (is_ascii_digit d ≡ true) × (list_all is_ascii_digit ds ≡ true) = and_parts _ _ h in
    let q = and_parts _ _ p.0 in
    let low : 48 ≤ d = leb-true 48 d q.0 in
    let high : d ≤ 57 = leb-true d 57 q.1 in
    let value = digit_value_digit d (low, high) in
    (omega arith, all_digits ds p.1)

-- so are those of a wall time
pub wall_digits : (ds : List ℕ) → is_wall ds ≡ true → AllDigits 10 ds
wall_digits ds h = all_digits ds (and_parts _ _ h).1

-- so many digits write a number below that power of ten
pub wall_below : (ds : List ℕ) (k : ℕ) → is_wall ds ≡ true → length ds ≤ k → digits_value 10 ds < 10 ^ k
wall_below ds k h few = digits_value_short (numerals_by_value (AllDigits 10) tells_digits) ds k (wall_digits ds h) few

-- one digit more
pub digit_more : (ds : List ℕ) (i value : ℕ) → is_wall ds ≡ true → length ds ≤ 19 → i < length ds
    → value ≡ digits_value 10 (take i ds)
    → (value * 10 + (get_or ds i 0 - 48) ≡ digits_value 10 (take (i + 1) ds))
    × (value * 10 + (get_or ds i 0 - 48) < 2 ^ 64)
digit_more ds i value h few lt is =
    let range = digit_at ds i (wall_digits ds h) lt in
    let d = digit_value_digit (get_or ds i 0) range in
    let more = digits_value_more 10 ds i lt in
    let below = wall_below ds 19 h few in
    let within = digits_value-take-le 10 ds (i + 1) (omega arith) in
    (omega arith, omega arith)

-- at the end the number is that of all digits
pub ended : (ds : List ℕ) (i value : ℕ) → length ds ≤ i → value ≡ digits_value 10 (take i ds)
    → value ≡ digits_value 10 ds
ended ds i value past is = is ∙ ap (digits_value 10) (take_all i ds past)

-- without a `-` no byte is left out
pub no_minus_few : (bytes : List ℕ) (k : ℕ) → has_minus bytes ≡ false → length (without_minus bytes) ≤ k
    → length bytes ≤ k
no_minus_few bytes k h few = rw h at few
