-- Digits and the numbers that they write: each number has one spelling, and each spelling one number.
use Rattle.std.proofs.Common.{◌≡◌, ℕ, ◌+◌, ◌-◌, ◌*◌, ◌^◌, ◌<◌, ◌≤◌, ◌/◌, ◌%◌, suc, zero, List, [], ◌∷◌, length, get_or}
use Rattle.std.proofs.Common.{drop, drop-cons, arith, refl, sym, ap, ◌∙◌, Bool, true, false, inl, inr}
use Rattle.std.proofs.lemmas.Bool.Decides.{nat_tests}
use Rattle.std.proofs.lemmas.Bool.{cases_lt}
use Rattle.std.proofs.lemmas.Grind.{common_steps}
use Rattle.std.proofs.lemmas.Str.Parse.{IsNumeralModel, numerals_by_value, tells_all_ascii_digits, digits_value_short}
use Rattle.std.proofs.lemmas.Fmt.{decimal_is_IsNumeral_wide, digits_decimal, digits_value-decimal, decimal-digits_value}
use Rattle.std.proofs.lemmas.Fmt.{decimal_nonempty, first_decimal, decimal_digit}
use Rattle.std.specs.Prelude.{Option, Some, None, if◌then◌else◌, ◌&&◌, ◌==◌}
use Rattle.std.specs.Char.{is_ascii_digit, digit_value}
use Rattle.std.specs.Fmt.{decimal, digits, digits_onto, digit_glyph}
use Rattle.std.proofs.lemmas.Nat.{le-div}
use Rattle.std.proofs.Math.Nat.{pow-suc, one-le-pow}
use Rattle.std.specs.Str.{all_ascii_digits}
use Rattle.std.specs.Str.Parse.{digits_value, digits_value_after}
use Rattle.css_num.specs.Words.{digits_after, digits_number, has_leading_zero, number_of, below_limit}

-- std's words for digits and their value
own : IsNumeralModel (λ bytes. all_ascii_digits bytes ≡ true) (digits_value 10)
own = numerals_by_value (λ bytes. all_ascii_digits bytes ≡ true) tells_all_ascii_digits

-- more digits don't bring a number back below a limit
pub digits_after-beyond : (limit number : ℕ) (bytes : List ℕ) → limit ≤ number
    → below_limit limit (digits_after number bytes) ≡ None
digits_after-beyond limit number [] h = grind (arith, nat_tests)
digits_after-beyond limit number (byte ∷ bytes) h =
    let rest : below_limit limit (digits_after (number * 10 + (byte - 48)) bytes) ≡ None =
    digits_after-beyond limit (number * 10 + (byte - 48)) bytes (omega arith) in
    elim (is_ascii_digit byte) as (λ b.
    below_limit limit (if b then digits_after (number * 10 + (byte - 48)) bytes else None) ≡ None) [
      | true ↦
          rest
      | false ↦ refl
    ]

-- nor do the digits from a place on, where the first of them brings it beyond
pub digits_after-next_beyond : (limit number i : ℕ) (bytes : List ℕ) → i < length bytes
    → limit ≤ number * 10 + (get_or bytes i 0 - 48)
    → below_limit limit (digits_after number (drop i bytes)) ≡ None
digits_after-next_beyond limit number i bytes inside h =
    let byte = get_or bytes i 0 in
    let rest = drop (suc i) bytes in
    let beyond : below_limit limit (digits_after (number * 10 + (byte - 48)) rest) ≡ None =
    digits_after-beyond limit (number * 10 + (byte - 48)) rest h in
    rw (drop-cons bytes i 0)
    (elim (is_ascii_digit byte) as (λ b.
    below_limit limit (if b then digits_after (number * 10 + (byte - 48)) rest else None) ≡ None) [
      | true ↦
          beyond
      | false ↦ refl
    ])

-- past the last digit there is the number so far
pub digits_after-end : (limit number i : ℕ) (bytes : List ℕ) → length bytes ≤ i → number < limit
    → below_limit limit (digits_after number (drop i bytes)) ≡ Some number
digits_after-end limit number i bytes past h = grind (arith, nat_tests, common_steps)

-- an ASCII digit is worth its distance from `0`
digit_value-ascii : (byte : ℕ) → is_ascii_digit byte ≡ true → digit_value byte ≡ byte - 48
digit_value-ascii byte h = grind (arith, nat_tests)

-- two tests that hold together each hold
both : (a b : Bool) → (a && b) ≡ true → (a ≡ true) × (b ≡ true)
both true b h = (refl, h)
both false b h = cc

-- digits give their value, and nothing else gives a number
pub digits_after-all : (number : ℕ) (bytes : List ℕ) → all_ascii_digits bytes ≡ true
    → digits_after number bytes ≡ Some (digits_value_after 10 number bytes)
digits_after-all number [] h = refl
digits_after-all number (byte ∷ bytes) h =
    let parts = both (is_ascii_digit byte) (all_ascii_digits bytes) h in
    let rest = digits_after-all (number * 10 + (byte - 48)) bytes parts.1 in
    rw (parts.0, digit_value-ascii byte parts.0) rest

-- a value that comes only under a test
pub then_some : (test : Bool) (more : Option ℕ) (n : ℕ) → (if test then more else None) ≡ Some n → (test ≡ true)
    × (more ≡ Some n)
then_some true more n h = (refl, h)
then_some false more n h = cc

-- what gives a number is digits alone
pub digits_after-only : (number n : ℕ) (bytes : List ℕ) → digits_after number bytes ≡ Some n
    → all_ascii_digits bytes ≡ true
digits_after-only number n [] h = refl
digits_after-only number n (byte ∷ bytes) h =
    let parts = then_some (is_ascii_digit byte) (digits_after (number * 10 + (byte - 48)) bytes) n h in
    let rest = digits_after-only (number * 10 + (byte - 48)) n bytes parts.1 in
    rw (parts.0, rest)

-- a zero that stands alone leads nothing
not_leading : (byte : ℕ) (bytes : List ℕ) → (byte ≡ 48 → length (byte ∷ bytes) ≡ 1)
    → has_leading_zero (byte ∷ bytes) ≡ false
not_leading byte bytes first = grind (arith, nat_tests)

-- a word of digits spells their value, if no zero leads
number_of-all : (bytes : List ℕ) → 0 < length bytes → all_ascii_digits bytes ≡ true
    → (get_or bytes 0 0 ≡ 48 → length bytes ≡ 1) → number_of bytes ≡ Some (digits_value 10 bytes)
number_of-all [] some all first = absurd (omega arith)
number_of-all (byte ∷ bytes) some all first = rw (not_leading byte bytes first) (digits_after-all 0 (byte ∷ bytes) all)

-- what a word is that spells a number
record IsSpelling (bytes : List ℕ) (n : ℕ) : Type 0 where
  some : 0 < length bytes
  all : all_ascii_digits bytes ≡ true
  first : get_or bytes 0 0 ≡ 48 → length bytes ≡ 1
  value : n ≡ digits_value 10 bytes

-- a value that comes only where a test fails
else_some : (test : Bool) (more : Option ℕ) (n : ℕ) → (if test then None else more) ≡ Some n → (test ≡ false)
    × (more ≡ Some n)
else_some true more n h = cc
else_some false more n h = (refl, h)

-- where no zero leads, a zero stands alone
leads : (byte : ℕ) (bytes : List ℕ) → has_leading_zero (byte ∷ bytes) ≡ false → byte ≡ 48 → length (byte ∷ bytes) ≡ 1
leads byte bytes h e = grind (arith, nat_tests)

-- a word that spells a number is digits without a leading zero
number_of-only : (bytes : List ℕ) (n : ℕ) → number_of bytes ≡ Some n → IsSpelling bytes n
number_of-only [] n h = cc
number_of-only (byte ∷ bytes) n h =
    let parts = else_some (has_leading_zero (byte ∷ bytes)) (digits_number (byte ∷ bytes)) n h in
    let all = digits_after-only 0 n (byte ∷ bytes) parts.1 in
    let same = digits_after-all 0 (byte ∷ bytes) all in
    record { some = omega arith; all = all; first = leads byte bytes parts.0; value = cc }

-- the decimal of a number begins with a zero only for zero
decimal_first : (n : ℕ) → n < 2 ^ 64 → get_or (decimal n) 0 0 ≡ 48 → length (decimal n) ≡ 1
decimal_first zero small h = ap length (decimal_digit 0 (omega arith))
decimal_first (suc n) small h = omega (arith, first_decimal (suc n) (omega arith) small)

-- the decimal of a number is read as the number
pub number_of-decimal : (n : ℕ) → n < 2 ^ 64 → number_of (decimal n) ≡ Some n
number_of-decimal n small =
    number_of-all (decimal n) (decimal_nonempty n small) (digits_decimal own n small) (decimal_first n small) ∙ ap Some
    (digits_value-decimal own n small)

-- what is read as a number is its decimal
pub decimal-number_of : (bytes : List ℕ) (n : ℕ) → n < 2 ^ 64 → number_of bytes ≡ Some n → bytes ≡ decimal n
decimal-number_of bytes n small h =
    let spelled = number_of-only bytes n h in
    let fits : digits_value 10 bytes < 2 ^ 64 = omega (arith, spelled.value) in
    sym (decimal-digits_value own bytes spelled.all spelled.some spelled.first fits) ∙ ap decimal (sym spelled.value)

-- a word of at most k digits spells a number below 10 ^ k
pub number_of-short : (bytes : List ℕ) (k n : ℕ) → length bytes ≤ k → number_of bytes ≡ Some n → n < 10 ^ k
number_of-short bytes k n short h =
    let spelled = number_of-only bytes n h in
    omega (arith, spelled.value, digits_value_short own bytes k spelled.all short)

-- k digits or more are written of a number that has them
digits_onto-long : (k n : ℕ) (acc : List ℕ) → 10 ^ k ≤ n → length (digits_onto k 10 false n acc) ≡ k + length acc
digits_onto-long zero n acc h = omega arith
digits_onto-long (suc k) n acc h =
    let front : 10 ^ k ≤ n / 10 = le-div (10 ^ k) n 10 (omega arith) (omega (arith, pow-suc 10 k)) in
    let some : 0 < n / 10 = omega (arith, one-le-pow k 10 (omega arith)) in
    let more : (n / 10 == 0) ≡ false = grind (arith, nat_tests) in
    let rest = digits_onto-long k (n / 10) (digit_glyph false (n % 10) ∷ acc) front in
    rw more (omega (arith, rest))

-- the decimal of a number of more than 64 digits keeps 64 of them
decimal-long : (n : ℕ) → 10 ^ 64 ≤ n → length (decimal n) ≡ 64
unfolding digits
decimal-long n h = omega (arith, digits_onto-long 64 n [] h)

-- a number that is written in at most k digits is below 10 ^ k
pub decimal-short : (k n : ℕ) → k < 64 → length (decimal n) ≤ k → n < 10 ^ k
decimal-short k n few h =
    elim (cases_lt n (10 ^ 64)) [
      | inl below ↦
          let spelled = decimal_is_IsNumeral_wide n below in
          omega (arith, digits_value_short own (decimal n) k (own.from (decimal n) spelled.0.1) h, spelled.1)
      | inr beyond ↦ absurd (omega (arith, decimal-long n beyond))
    ]
