-- Numbers and words that are printed are read back.
use Rattle.std.proofs.Common.{◌≡◌, ℕ, ◌+◌, ◌^◌, ◌<◌, ◌≤◌, arith, ap, refl, false, true}
use Rattle.std.proofs.Common.{List, ◌∷◌, ne_eqb}
use Rattle.std.specs.Prelude.{if◌then◌else◌, ◌==◌, ℤ, ◌≤ℤ◌, unsigned_abs, Option, Result, Ok, Err, decimal}
use Rattle.std.specs.Fmt.{signed_decimal}
use Rattle.std.proofs.Math.Nat.{pow-le-pow_right}
use Rattle.std.proofs.lemmas.Fmt.{length-decimal-le}
use Rattle.css_num.proofs.Spellings.{whole_number_of-spelling, signed_number_of-spelled}
use Rattle.css_model.proofs.Narrowest.{is_not_less}
use Rattle.css_model.specs.declared.TheConstants.{LIMIT}
use Rattle.css_schedule.proofs.Quick.{read}
use Rattle.css_schedule.specs.declared.fault.LineFault.{LineFault}
use Rattle.css_schedule.specs.declared.fault.LineFault.TheVariants.{Form}
use Rattle.css_schedule.specs.Words.{is_word, ◌>>=◌, or_form, number_at, ordinal_at, integer_at, signed_at, text_at}
use Rattle.css_schedule.specs.Lines.{time_at, position_at}
use Rattle.css_schedule.specs.Ranges.{IsOrdinal}

-- `Ok`, at this type of fault
abbrev pub good : {A : Type 0} → A → Result A LineFault
good x = Ok x

-- ---- numbers
-- a number below the bound
pub number-back : (below number : ℕ) (rest : List (List ℕ)) → below ≤ 2 ^ 64 → number < below
    → number_at below (decimal number ∷ rest) ≡ Ok (number, rest)
unfolding number_at
number-back below number rest fits small =
    let spelling = whole_number_of-spelling (decimal number) below fits number in
    ap (λ (o : Option ℕ). or_form o >>= read rest) (spelling.1 (record { spelling = refl; small = small }))

pub time-back : (number : ℕ) (rest : List (List ℕ)) → number < LIMIT
    → time_at (decimal number ∷ rest) ≡ Ok (number, rest)
time-back number rest small = number-back LIMIT number rest (omega arith) small

-- the number of something
pub ordinal-back : (number : ℕ) (rest : List (List ℕ)) → IsOrdinal number
    → ordinal_at (decimal number ∷ rest) ≡ Ok (number, rest)
unfolding ordinal_at
ordinal-back number rest h =
    let some : (number == 0) ≡ false = ne_eqb number 0 (λ e. omega (arith, h.low)) in
    rw (number-back 4294967296 number rest (omega arith) h.high)
    (ap (λ b. if b then Err Form else good (number, rest)) some)

-- a signed number of at most so many digits
pub integer-back : (digits : ℕ) (number : ℤ) (rest : List (List ℕ)) → 0 < digits → digits ≤ 18
    → unsigned_abs number < 10 ^ digits
    → integer_at digits (signed_decimal number ∷ rest) ≡ Ok (number, rest)
unfolding integer_at
integer-back digits number rest some few small =
    let most : 10 ^ digits ≤ 10 ^ 18 = pow-le-pow_right {n = 10} (omega arith) {i = digits} {j = 18} few in
    let fits : unsigned_abs number < 2 ^ 64 = omega (arith, most, small) in
    let short = length-decimal-le digits (unsigned_abs number) some small fits in
    ap (λ (o : Option ℤ). or_form o >>= (λ n. good (n, rest)))
    (signed_number_of-spelled (signed_decimal number) digits number few (record { spelling = refl; short = short }))

pub position-back : (number : ℤ) (rest : List (List ℕ)) → unsigned_abs number < 10 ^ 18
    → position_at (signed_decimal number ∷ rest) ≡ Ok (number, rest)
position-back number rest small = integer-back 18 number rest (omega arith) (omega arith) small

-- and one between its bounds
pub signed-back : (low high number : ℤ) (rest : List (List ℕ)) → unsigned_abs number < 10 ^ 3 → low ≤ℤ number
    → number ≤ℤ high
    → signed_at 3 low high (signed_decimal number ∷ rest) ≡ Ok (number, rest)
unfolding signed_at
signed-back low high number rest small over under =
    rw (
      integer-back 3 number rest (omega arith) (omega arith) small,
      is_not_less number low over,
      is_not_less high number under,
    ) refl

-- a number that may reach its bound
pub up_to-back : (most number : ℕ) (rest : List (List ℕ)) → most < 2 ^ 64 → number ≤ most
    → number_at (most + 1) (decimal number ∷ rest) ≡ Ok (number, rest)
up_to-back most number rest fits small =
    number-back (most + 1) number rest (omega (arith, fits)) (omega (arith, small))

-- a word that stands for itself
pub text-back : (word : List ℕ) (rest : List (List ℕ)) → is_word word ≡ true → text_at (word ∷ rest) ≡ Ok (word, rest)
unfolding text_at
text-back word rest h = ap (λ b. if b then good (word, rest) else Err Form) h
