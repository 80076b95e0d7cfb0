-- A number at the front of words, read in one pass.
use Rattle.std.proofs.Common.{◌≡◌, ℕ, ◌+◌, ◌-◌, ◌*◌, ◌<◌, ◌≤◌, ◌^◌, arith, Bool, true, false, List, [], ◌∷◌}
use Rattle.std.proofs.Common.{◌++◌, length, get_or, take, drop, refl, sym, ◌∙◌, ap, Some, None, Result, Ok, Err}
use Rattle.std.proofs.Common.{suc}
use Rattle.std.specs.Prelude.{if◌then◌else◌, nat_lt}
use Rattle.std.specs.List.{All}
use Rattle.std.specs.Char.{is_ascii_digit}
use Rattle.std.proofs.lemmas.Bool.Decides.{nat_tests}
use Rattle.std.proofs.lemmas.List.Elements.{All-nil, All-cons}
use Rattle.std.proofs.lemmas.Bool.{lt-ltb, le-ltb}
use Rattle.std.proofs.lemmas.List.{drop_more, take_more, take-append-drop, length-take-le}
use Rattle.std.proofs.Math.Seq.{take-length}
use Rattle.std.proofs.Math.Nat.{pow-suc, pow-le-pow_right}
use Rattle.css_schedule.proofs.Cut.{take-drop_end}
use Rattle.std.proofs.lemmas.List.Splits.{slice_split_none, slice_split_at}
use Rattle.css_num.specs.Words.{digits_after, has_leading_zero, number_of, below_limit}
use Rattle.css_num.proofs.Numerals.{then_some}
use Rattle.css_schedule.specs.declared.fault.LineFault.{LineFault}
use Rattle.css_schedule.specs.declared.fault.LineFault.TheVariants.{Form}
use Rattle.css_schedule.specs.Words.{◌>>=◌, or_form, is_space, words_of, number_at, SpellsFirst}

-- one digit more
pub digits_after-push : (number n : ℕ) (bytes : List ℕ) (byte : ℕ) → digits_after number bytes ≡ Some n
    → is_ascii_digit byte ≡ true
    → digits_after number (bytes ++ byte ∷ []) ≡ Some (n * 10 + (byte - 48))
digits_after-push number n [] byte is digit =
    let same : number ≡ n = cc in
    ap (λ v. if v then Some (number * 10 + (byte - 48)) else None) digit
    ∙ ap (λ (k : ℕ). Some (k * 10 + (byte - 48))) same
digits_after-push number n (b ∷ bytes) byte is digit =
    let parts = then_some (is_ascii_digit b) (digits_after (number * 10 + (b - 48)) bytes) n is in
    ap (λ v. if v then digits_after (number * 10 + (b - 48)) (bytes ++ byte ∷ []) else None) parts.0
    ∙ digits_after-push (number * 10 + (b - 48)) n bytes byte parts.1 digit

-- a digit is no space
digit_no_space : (byte : ℕ) → is_ascii_digit byte ≡ true → is_space byte ≡ false
digit_no_space byte digit = grind (arith, nat_tests)

-- no space stands in digits
pub no_space : (number n : ℕ) (bytes : List ℕ) → digits_after number bytes ≡ Some n
    → All (λ b. is_space b ≡ false) bytes
no_space number n [] is = All-nil (λ b. is_space b ≡ false)
no_space number n (b ∷ bytes) is =
    let parts = then_some (is_ascii_digit b) (digits_after (number * 10 + (b - 48)) bytes) n is in
    All-cons (λ b. is_space b ≡ false) b bytes (digit_no_space b parts.0)
    (no_space (number * 10 + (b - 48)) n bytes parts.1)

-- digits spell the number that they write, if no zero leads
spelled : (digits : List ℕ) (number : ℕ) → 0 < length digits → has_leading_zero digits ≡ false
    → digits_after 0 digits ≡ Some number → number_of digits ≡ Some number
spelled [] number some leads is = absurd (omega arith)
spelled (byte ∷ bytes) number some leads is = ap (λ v. if v then None else digits_after 0 (byte ∷ bytes)) leads ∙ is

-- the digits are the last word
pub spells_last : (bytes : List ℕ) (count number : ℕ) → length bytes ≡ count → 0 < count
    → has_leading_zero (take count bytes) ≡ false → digits_after 0 (take count bytes) ≡ Some number
    → SpellsFirst (words_of bytes) number []
spells_last bytes count number whole some leads is =
    let all : take count bytes ≡ bytes = ap (λ n. take n bytes) (sym whole) ∙ take-length bytes in
    record {
      word = take count bytes;
      first = ap words_of (sym all)
          ∙ slice_split_none is_space (take count bytes) (no_space 0 number (take count bytes) is);
      spelled = spelled (take count bytes) number (omega (arith, ap length all)) leads is;
    }

-- a space stands after the digits
pub spells_first : (bytes : List ℕ) (count number : ℕ) → count < length bytes → get_or bytes count 0 ≡ 32 → 0 < count
    → has_leading_zero (take count bytes) ≡ false
    → digits_after 0 (take count bytes) ≡ Some number
    → SpellsFirst (words_of bytes) number (words_of (take (length bytes - (count + 1)) (drop (count + 1) bytes)))
spells_first bytes count number within space some leads is =
    let rest = drop (count + 1) bytes in
    let whole : bytes ≡ take count bytes ++ 32 ∷ rest =
    sym (take-append-drop count bytes) ∙ ap (λ l. take count bytes ++ l) (drop_more bytes count 0 within)
    ∙ ap (λ (b : ℕ). take count bytes ++ b ∷ rest) space in
    let reach : length (take count bytes) ≡ count = length-take-le count bytes (omega (arith, within)) in
    record {
      word = take count bytes;
      first =
          ap words_of whole
          ∙ slice_split_at is_space (take count bytes) 32 rest (no_space 0 number (take count bytes) is) refl
          ∙ ap (λ l. take count bytes ∷ words_of l) (sym (take-drop_end (count + 1) bytes));
      spelled = spelled (take count bytes) number (omega (arith, reach)) leads is;
    }

-- the number and the words after it
abbrev pub read : List (List ℕ) → ℕ → Result (ℕ × List (List ℕ)) LineFault
read rest number = Ok (number, rest)

-- a number that is read at the front, or the fault of the form
chosen : (test : Bool) (number : ℕ) (rest : List (List ℕ))
    → (or_form (if test then Some number else None) >>= read rest) ≡ (if test then read rest number else Err Form)
chosen true number rest = refl
chosen false number rest = refl

-- the number that the first word spells is read, where it is below the bound
pub number_at-first : (below number : ℕ) (words rest : List (List ℕ)) → SpellsFirst words number rest
    → number_at below words ≡ (if nat_lt number below then read rest number else Err Form)
unfolding number_at
number_at-first below number words rest s =
    ap (number_at below) s.first ∙ ap (λ n. or_form (below_limit below n) >>= read rest) s.spelled
    ∙ chosen (nat_lt number below) number rest

-- a number below the bound
pub number_at-below : (below number : ℕ) (words rest : List (List ℕ)) → SpellsFirst words number rest → number < below
    → number_at below words ≡ Ok (number, rest)
number_at-below below number words rest s small =
    number_at-first below number words rest s
    ∙ ap (λ v. if v then read rest number else Err Form) (lt-ltb number below small)

-- a number that is not below the bound
pub number_at-beyond : (below number : ℕ) (words rest : List (List ℕ)) → SpellsFirst words number rest → below ≤ number
    → number_at below words ≡ Err Form
number_at-beyond below number words rest s large =
    number_at-first below number words rest s
    ∙ ap (λ v. if v then read rest number else Err Form) (le-ltb number below large)

-- a byte from `0` to `9` is a digit
pub digit_here : (byte : ℕ) → 48 ≤ byte → byte ≤ 57 → is_ascii_digit byte ≡ true
digit_here byte low high = grind (arith, nat_tests)

-- one digit more in front of the rest
pub digits_next : (bytes : List ℕ) (count number : ℕ) → count < length bytes
    → is_ascii_digit (get_or bytes count 0) ≡ true → digits_after 0 (take count bytes) ≡ Some number
    → digits_after 0 (take (count + 1) bytes) ≡ Some (number * 10 + (get_or bytes count 0 - 48))
digits_next bytes count number within digit is =
    ap (digits_after 0) (take_more bytes count 0 within)
    ∙ digits_after-push 0 number (take count bytes) (get_or bytes count 0) is digit

-- a number of so many digits and one more, where they are at most 19
pub small_next : (count number digit : ℕ) → number < 10 ^ count → digit ≤ 9 → number * 10 + digit < 10 ^ (count + 1)
small_next count number digit small below =
    let next : count + 1 ≡ suc count = omega arith in
    omega (arith, small, below, pow-suc 10 count, ap (λ n. 10 ^ n) next)

-- at most 19 digits fit
pub fits_next : (count number digit : ℕ) → number < 10 ^ count → count < 19 → digit ≤ 9 → number * 10 + digit < 2 ^ 64
fits_next count number digit small short below =
    let most : 10 ^ (count + 1) ≤ 10 ^ 19 =
    pow-le-pow_right {n = 10} (omega arith) {i = count + 1} {j = 19} (omega arith) in
    omega (arith, small_next count number digit small below, most)
