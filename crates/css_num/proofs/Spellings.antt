-- Words and the numbers that they spell: the readings of `whole_number` and `signed_number` are the decimal spellings.
use Rattle.std.proofs.Common.{◌≡◌, ℕ, ◌^◌, ◌<◌, ◌≤◌, suc, zero, List, [], ◌∷◌, length, get_or, arith, refl, sym, ap}
use Rattle.std.proofs.Common.{◌∙◌, true, false, ◌↔◌}
use Rattle.std.proofs.lemmas.Bool.Decides.{nat_tests}
use Rattle.std.proofs.lemmas.Bool.{eqb-true}
use Rattle.std.proofs.lemmas.Fmt.{decimal_nonempty, first_decimal, decimal_digit}
use Rattle.std.specs.Prelude.{Option, Some, None, if◌then◌else◌, ◌==◌, nat_le, option_map, IfSome, ℤ, pos, negsuc}
use Rattle.std.specs.Prelude.{unsigned_abs}
use Rattle.std.specs.Fmt.{decimal}
use Rattle.css_num.specs.Words.{number_of, below_limit, whole_number_of, short_number_of, negative_of, signed_number_of}
use Rattle.css_num.specs.Words.{SpellsBelow, SpellsWithin}
use Rattle.css_num.proofs.Numerals.{then_some, number_of-decimal, decimal-number_of, number_of-short, decimal-short}

-- what comes through a limit is below it
below_some : (limit n : ℕ) (read : Option ℕ) → below_limit limit read ≡ Some n → (read ≡ Some n) × (n < limit)
below_some limit n None h = cc
below_some limit n (Some number) h = grind (arith, nat_tests)

-- what is below a limit comes through it
some_below : (limit n : ℕ) → n < limit → below_limit limit (Some n) ≡ Some n
some_below limit n h = grind (arith, nat_tests)

-- a word is read as a number below a limit exactly where it is its decimal
pub whole_number_of-spelling : (bytes : List ℕ) (limit : ℕ) → limit ≤ 2 ^ 64 → (n : ℕ)
    → (whole_number_of bytes limit ≡ Some n) ↔ SpellsBelow bytes limit n
whole_number_of-spelling bytes limit fits n = (
  λ h.
      let read = below_some limit n (number_of bytes) h in
      record { spelling = decimal-number_of bytes n (omega (arith, read.1)) read.0; small = read.1 },
  λ spelled.
      ap (λ word. whole_number_of word limit) spelled.spelling
      ∙ ap (below_limit limit) (number_of-decimal n (omega (arith, spelled.small)))
      ∙ some_below limit n spelled.small,
)

-- what a function that reads such a word answers
pub SpellsBelow-answer : (bytes : List ℕ) (limit : ℕ) (answer : Option ℕ) → limit ≤ 2 ^ 64
    → answer ≡ whole_number_of bytes limit
    → (n : ℕ) → (answer ≡ Some n) ↔ SpellsBelow bytes limit n
SpellsBelow-answer bytes limit answer fits e = rw e (whole_number_of-spelling bytes limit fits)

-- a number that is read of a short word
short_some : (bytes : List ℕ) (digits n : ℕ) → short_number_of bytes digits ≡ Some n → (length bytes ≤ digits)
    × (number_of bytes ≡ Some n)
short_some bytes digits n h =
    let parts = then_some (nat_le (length bytes) digits) (number_of bytes) n h in
    let few : length bytes ≤ digits = grind (arith, nat_tests) in
    (few, parts.1)

-- a short word that spells a number is read
some_short : (bytes : List ℕ) (digits n : ℕ) → length bytes ≤ digits → number_of bytes ≡ Some n
    → short_number_of bytes digits ≡ Some n
some_short bytes digits n few h =
    let test : nat_le (length bytes) digits ≡ true = grind (arith, nat_tests) in
    rw test h

-- a word of at most 18 digits spells a number far below 2 ^ 64, so its reading needs no limit
short_fits : (bytes : List ℕ) (n : ℕ) → length bytes ≤ 18 → number_of bytes ≡ Some n → n < 10 ^ 18
short_fits bytes n few h = number_of-short bytes 18 n few h

-- the number of a short word comes through the limit of 2 ^ 64
below_is : (bytes : List ℕ) (read : Option ℕ) → length bytes ≤ 18 → number_of bytes ≡ read
    → below_limit (2 ^ 64) read ≡ read
below_is bytes None few h = refl
below_is bytes (Some n) few h = some_below (2 ^ 64) n (omega (arith, short_fits bytes n few h))

-- so reading it under that limit changes nothing
pub short_number_of-below : (bytes : List ℕ) (digits : ℕ) → length bytes ≤ digits → digits ≤ 18
    → below_limit (2 ^ 64) (number_of bytes) ≡ short_number_of bytes digits
short_number_of-below bytes digits few most =
    let test : nat_le (length bytes) digits ≡ true = grind (arith, nat_tests) in
    rw test (below_is bytes (number_of bytes) (omega arith) refl)

-- and it is below 10 ^ 18
pub short_number_of-small : (bytes : List ℕ) (digits n : ℕ) → digits ≤ 18 → short_number_of bytes digits ≡ Some n
    → n < 10 ^ 18
short_number_of-small bytes digits n most h =
    let parts = short_some bytes digits n h in
    short_fits bytes n (omega (arith, parts.0)) parts.1

-- a number that is read after a `-` is spelled so
minus_spelled : (bytes : List ℕ) (digits : ℕ) (z : ℤ) (read : Option ℕ) → digits ≤ 18
    → short_number_of bytes digits ≡ read → negative_of read ≡ Some z → SpellsWithin (45 ∷ bytes) digits z
minus_spelled bytes digits z None most short h = cc
minus_spelled bytes digits z (Some zero) most short h = cc
minus_spelled bytes digits z (Some (suc n)) most short h =
    let parts = short_some bytes digits (suc n) short in
    let small = short_number_of-small bytes digits (suc n) most short in
    let spelling = decimal-number_of bytes (suc n) (omega (arith, small)) parts.1 in
    let is : z ≡ negsuc n = cc in
    rw is (record { spelling = ap (λ word. 45 ∷ word) spelling; short = omega (arith, parts.0, ap length spelling) })

-- and so is a number that is read with no sign
plain_spelled : (bytes : List ℕ) (digits : ℕ) (z : ℤ) (read : Option ℕ) → digits ≤ 18
    → short_number_of bytes digits ≡ read → option_map pos read ≡ Some z → SpellsWithin bytes digits z
plain_spelled bytes digits z None most short h = cc
plain_spelled bytes digits z (Some n) most short h =
    let parts = short_some bytes digits n short in
    let small = short_number_of-small bytes digits n most short in
    let spelling = decimal-number_of bytes n (omega (arith, small)) parts.1 in
    let is : z ≡ pos n = cc in
    rw is (record { spelling = spelling; short = omega (arith, parts.0, ap length spelling) })

-- a word that is read as a number is its decimal
pub SpellsWithin-signed_number_of : (bytes : List ℕ) (digits : ℕ) (z : ℤ) → digits ≤ 18
    → signed_number_of bytes digits ≡ Some z → SpellsWithin bytes digits z
SpellsWithin-signed_number_of [] digits z most h = cc
SpellsWithin-signed_number_of (byte ∷ bytes) digits z most h =
    elim (byte == 45) as (λ b. (byte == 45) ≡ b
    → (if b then negative_of (short_number_of bytes digits)
    else option_map pos (short_number_of (byte ∷ bytes) digits)) ≡ Some z → SpellsWithin (byte ∷ bytes) digits z) [
      | true ↦
          λ minus read.
          rw (eqb-true byte 45 minus) (minus_spelled bytes digits z (short_number_of bytes digits) most refl read)
      | false ↦
          λ plain read. plain_spelled (byte ∷ bytes) digits z (short_number_of (byte ∷ bytes) digits) most refl read
    ] refl h

-- no number's digits begin with a `-`
decimal_plain : (n : ℕ) → n < 2 ^ 64 → 45 < get_or (decimal n) 0 0
decimal_plain zero small = rw (decimal_digit 0 (omega arith)) (omega arith)
decimal_plain (suc n) small = omega (arith, first_decimal (suc n) (omega arith) small)

-- a word that begins with no `-` is read without a sign
plain_read : (bytes : List ℕ) (digits n : ℕ) → 0 < length bytes → 45 < get_or bytes 0 0
    → short_number_of bytes digits ≡ Some n → signed_number_of bytes digits ≡ Some (pos n)
plain_read [] digits n some plain h = absurd (omega arith)
plain_read (byte ∷ bytes) digits n some plain h =
    let test : (byte == 45) ≡ false = grind (arith, nat_tests) in
    rw (test, h)

-- a number that is spelled is read
pub signed_number_of-spelled : (bytes : List ℕ) (digits : ℕ) (z : ℤ) → digits ≤ 18 → SpellsWithin bytes digits z
    → signed_number_of bytes digits ≡ Some z
signed_number_of-spelled bytes digits (pos n) most spelled =
    let small : n < 2 ^ 64 = omega (arith, decimal-short 18 n (omega arith) (omega (arith, spelled.short))) in
    let read = some_short (decimal n) digits n spelled.short (number_of-decimal n small) in
    rw spelled.spelling (plain_read (decimal n) digits n (decimal_nonempty n small) (decimal_plain n small) read)
signed_number_of-spelled bytes digits (negsuc n) most spelled =
    let small : suc n < 2 ^ 64 = omega (arith, decimal-short 18 (suc n) (omega arith) (omega (arith, spelled.short))) in
    let read = some_short (decimal (suc n)) digits (suc n) spelled.short (number_of-decimal (suc n) small) in
    rw (spelled.spelling, read)

-- what a function that reads such a word answers
pub SpellsWithin-answer : (bytes : List ℕ) (digits : ℕ) (answer : Option ℤ) → digits ≤ 18
    → answer ≡ signed_number_of bytes digits
    → (z : ℤ) → (answer ≡ Some z) ↔ SpellsWithin bytes digits z
SpellsWithin-answer bytes digits answer most e z = (
  λ h. SpellsWithin-signed_number_of bytes digits z most (sym e ∙ h),
  λ spelled. e ∙ signed_number_of-spelled bytes digits z most spelled,
)

-- the number that such a function answers has at most so many digits
pub signed_number_of-small : (bytes : List ℕ) (digits : ℕ) (answer : Option ℤ) → digits ≤ 18
    → answer ≡ signed_number_of bytes digits
    → IfSome answer (λ z. unsigned_abs z < 10 ^ digits)
signed_number_of-small bytes digits None most e = tt
signed_number_of-small bytes digits (Some z) most e =
    let spelled = SpellsWithin-signed_number_of bytes digits z most (sym e) in
    decimal-short digits (unsigned_abs z) (omega arith) spelled.short
