-- One step of reading after another, and the ranges of what each step reads.
use Rattle.std.proofs.Common.{◌≡◌, ℕ, ◌^◌, ◌<◌, ◌≤◌, arith, refl, subst, Bool, true, false, cond, List}
use Rattle.std.specs.Prelude.{if◌then◌else◌, ℤ, ◌≤ℤ◌, int_lt, nat_lt, ◌==◌, unsigned_abs, Option, Some, None, IfSome}
use Rattle.std.specs.Prelude.{Result, Ok, Err, IfOk}
use Rattle.std.proofs.lemmas.Bool.{ltb-true, eqb-false}
use Rattle.std.proofs.lemmas.Int.{ints}
use Rattle.css_num.specs.Gives.{GivesBy}
use Rattle.css_num.specs.Words.{below_limit, number_of, signed_number_of}
use Rattle.css_num.proofs.Spellings.{signed_number_of-small}
use Rattle.css_schedule.proofs.Graphic.{word-utf8}
use Rattle.css_schedule.specs.declared.fault.LineFault.{LineFault}
use Rattle.css_schedule.specs.declared.fault.LineFault.TheVariants.{Form, Memory}
use Rattle.css_schedule.specs.Words.{is_word, ◌>>=◌, or_form}
use Rattle.css_schedule.specs.Words.{word_at, number_at, ordinal_at, integer_at, signed_at, text_at}
use Rattle.css_schedule.specs.Ranges.{IsOrdinal, IsText}

-- ---- one after another
-- what is read, and the words after it
abbrev pub Front : Type 0 → Type 0
Front A = A × List (List ℕ)

-- what is read is in range
abbrev pub First : {A : Type 0} → (A → Type 0) → Front A → Type 0
First In front = In front.0

-- the same, where it is read
abbrev pub Gets : {A : Type 0} → (A → Type 0) → Result (Front A) LineFault → Type 0
Gets In read = IfOk read (First In)

-- after a step of whose value nothing is to be known
pub pass : {A B : Type 0} (Out : B → Type 0) (read : Result A LineFault) (next : A → Result B LineFault)
    → ((value : A) → IfOk (next value) Out) → IfOk (read >>= next) Out
pass Out (Ok value) next go = go value
pass Out (Err fault) next go = tt

-- after a step that reads what is in range
pub after : {A B : Type 0} (In : A → Type 0) (Out : B → Type 0)
    (read : Result (Front A) LineFault) (next : Front A → Result B LineFault)
    → Gets In read → ((value : A) (rest : List (List ℕ)) → In value → IfOk (next (value, rest)) Out)
    → IfOk (read >>= next) Out
after In Out (Ok front) next in_range go = go front.0 front.1 in_range
after In Out (Err fault) next in_range go = tt

-- after a step that reads all that is left
pub after_whole : {A B : Type 0} (In : A → Type 0) (Out : B → Type 0)
    (read : Result A LineFault) (next : A → Result B LineFault)
    → IfOk read In → ((value : A) → In value → IfOk (next value) Out) → IfOk (read >>= next) Out
after_whole In Out (Ok value) next in_range go = go value in_range
after_whole In Out (Err fault) next in_range go = tt

-- after a value that may be missing
pub after_some : {A B : Type 0} (In : A → Type 0) (Out : B → Type 0) (value : Option A) (next : A → Result B LineFault)
    → IfSome value In → ((a : A) → In a → IfOk (next a) Out) → IfOk (or_form value >>= next) Out
after_some In Out None next in_range go = tt
after_some In Out (Some a) next in_range go = go a in_range

-- one of two, by a test
pub either : {B : Type 0} (Out : B → Type 0) (test : Bool) (one other : Result B LineFault)
    → IfOk one Out → IfOk other Out
    → IfOk (if test then one else other) Out
either Out true one other h k = h
either Out false one other h k = k

-- what passes a test
pub where_true : {B : Type 0} (Out : B → Type 0) (test : Bool) (result : Result B LineFault)
    → (test ≡ true → IfOk result Out) → IfOk (if test then result else Err Form) Out
where_true Out true result h = h refl
where_true Out false result h = tt

-- what a test spares
pub where_false : {B : Type 0} (Out : B → Type 0) (test : Bool) (result : Result B LineFault)
    → (test ≡ false → IfOk result Out) → IfOk (if test then Err Form else result) Out
where_false Out true result h = tt
where_false Out false result h = h refl

-- a value that is the success is in range
pub ok-range : {B : Type 0} (Out : B → Type 0) (result : Result B LineFault) (value : B) → IfOk result Out
    → result ≡ Ok value → Out value
ok-range {B} Out result value h e = subst (λ (r : Result B LineFault). IfOk r Out) e h

-- so is what a call answers
pub answer-range : {B : Type 0} (Out : B → Type 0) (answer expected : Result B LineFault)
    → IfOk expected Out → GivesBy (λ value. value) Memory answer expected → IfOk answer Out
answer-range Out (Ok value) expected h e = ok-range Out expected value h e
answer-range Out (Err fault) expected h e = tt

-- ---- numbers
-- a number that passes the test is below the bound
below : (limit : ℕ) (number : Option ℕ) → IfSome (below_limit limit number) (λ n. n < limit)
below limit None = tt
below limit (Some n) = by (nat_lt n limit) refl
  where
    by : (b : Bool) → nat_lt n limit ≡ b → IfSome (cond b (Some n) None) (λ k. k < limit)
    by true p = ltb-true n limit p
    by false p = tt

-- so is a number that is read
pub number-range : (limit : ℕ) (words : List (List ℕ)) → Gets (λ n. n < limit) (number_at limit words)
unfolding number_at
number-range limit words =
    pass (First (λ n. n < limit)) (word_at words) _ (λ word.
    after_some (λ n. n < limit) (First (λ n. n < limit)) _ _ (below limit (number_of word.0)) (λ n small. small))

-- the number of something isn't 0
pub ordinal-range : (words : List (List ℕ)) → Gets IsOrdinal (ordinal_at words)
unfolding ordinal_at
ordinal-range words =
    after (λ n. n < 4294967296) (First IsOrdinal) _ _ (number-range 4294967296 words) (λ number rest small.
    where_false (First IsOrdinal) (number == 0) _ (λ some.
    record { low = positive number (eqb-false number 0 some); high = small }))
  where
    positive : (n : ℕ) → (n ≡ 0 → ⊥) → 1 ≤ n
    positive n apart = omega arith

-- a signed number has at most so many digits
pub integer-range : (digits : ℕ) → digits ≤ 18 → (words : List (List ℕ))
    → Gets (λ n. unsigned_abs n < 10 ^ digits) (integer_at digits words)
unfolding integer_at
integer-range digits few words =
    pass (First (λ n. unsigned_abs n < 10 ^ digits)) (word_at words) _ (λ word.
    after_some (λ n. unsigned_abs n < 10 ^ digits) (First (λ n. unsigned_abs n < 10 ^ digits)) _ _
    (signed_number_of-small word.0 digits (signed_number_of word.0 digits) few refl) (λ n small. small))

-- what isn't less is at least as great
not_less : (a b : ℤ) → int_lt a b ≡ false → b ≤ℤ a
not_less a b e = omega (arith, ints, e)

-- a signed number that is read is between its bounds
pub signed-range : (digits : ℕ) (low high : ℤ) (words : List (List ℕ))
    → Gets (λ n. (low ≤ℤ n) × (n ≤ℤ high)) (signed_at digits low high words)
unfolding signed_at
signed-range digits low high words =
    pass (First (λ n. (low ≤ℤ n) × (n ≤ℤ high))) (integer_at digits words) _ (λ number.
    where_false (First (λ n. (low ≤ℤ n) × (n ≤ℤ high))) (int_lt number.0 low) _ (λ over.
    where_false (First (λ n. (low ≤ℤ n) × (n ≤ℤ high))) (int_lt high number.0) _ (λ under.
    (not_less number.0 low over, not_less high number.0 under))))

-- a text is a word
pub text-range : (words : List (List ℕ)) → Gets IsText (text_at words)
unfolding text_at
text-range words =
    pass (First IsText) (word_at words) _ (λ word.
    where_true (First IsText) (is_word word.0) _ (λ passed. record { word = passed; utf8 = word-utf8 word.0 passed }))
