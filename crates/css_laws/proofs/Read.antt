-- Words that are read are read again where other words follow, and a line of version 1 is read with its companion's
-- number in it.
use Rattle.std.proofs.Common.{◌≡◌, ℕ, ◌<◌, arith, ap, sym, ◌∙◌, refl, Bool, true, false, List, [], ◌∷◌, if◌then◌else◌}
use Rattle.std.proofs.Common.{Some, None, Result, Ok, Err, IfOk, bytes_eq, codes, lt-ltb}
use Rattle.std.proofs.lemmas.Slice.Eq.{bytes_eq-Decides}
use Rattle.css_num.specs.Words.{whole_number_of}
use Rattle.css_schedule.specs.declared.fault.LineFault.TheVariants.{Form}
use Rattle.css_schedule.specs.Words.{◌>>=◌, number_at}
use Rattle.css_schedule.specs.Lines as lines
use Rattle.css_schedule.specs.Lines.{time_at, verb_at, second_verb_at, operands_at, timelines_at, session_at, viewer_at}
use Rattle.css_schedule.specs.Lines.{command_at, line_of_words}
use Rattle.css_laws.proofs.Names.{LIMIT, Front, pass, after_whole, ok-range, LineFault, Line, Verb, Sleep, At, or_form}
use Rattle.css_laws.proofs.Names.{all_read}

-- ---- one word
-- one word is read, whatever follows it
pub record IsWord {A : Type 0} (read : At A) (words : List (List ℕ)) (front : Front A) : Type 0 where
  pub word : List ℕ
  pub are : words ≡ word ∷ front.1
  pub again : (more : List (List ℕ)) → read (word ∷ more) ≡ Ok (front.0, more)

-- a value and the words after it
abbrev front : {A : Type 0} → A → List (List ℕ) → Result (Front A) LineFault
front value rest = Ok (value, rest)

-- A reader takes one word, of which it makes this.
pub record TakesWord {A : Type 0} (read : At A) : Type 0 where
  pub value : List ℕ → Result A LineFault
  pub none : read [] ≡ Err Form
  pub some : (word : List ℕ) (rest : List (List ℕ)) → read (word ∷ rest) ≡ (value word >>= λ a. front a rest)

pub one-word : {A : Type 0} (read : At A) → TakesWord read → (words : List (List ℕ))
    → IfOk (read words) (IsWord read words)
one-word read takes [] = rw takes.none tt
one-word {A} read takes (word ∷ rest) = by (takes.value word) refl
  where
    again : (a : A) → takes.value word ≡ Ok a → (more : List (List ℕ)) → read (word ∷ more) ≡ Ok (a, more)
    again a e more = takes.some word more ∙ ap (λ (value : Result A LineFault). value >>= λ a. front a more) e

    by : (value : Result A LineFault) → takes.value word ≡ value → IfOk (read (word ∷ rest)) (IsWord read (word ∷ rest))
    by (Err fault) e = rw (takes.some word rest ∙ ap (λ (value : Result A LineFault). value >>= λ a. front a rest) e) tt
    by (Ok a) e = rw (again a e rest) (record { word = word; are = refl; again = again a e })

pub number-word : (limit : ℕ) (words : List (List ℕ)) → IfOk (number_at limit words) (IsWord (number_at limit) words)
unfolding number_at
number-word limit words =
    one-word (number_at limit) (record {
      value = λ word. or_form (whole_number_of word limit);
      none = refl;
      some = λ word rest. refl;
    }) words

-- what is read
pub itself : {A : Type 0} (read : Result A LineFault) → IfOk read (λ value. read ≡ Ok value)
itself (Ok value) = refl
itself (Err fault) = tt

-- ---- lines
-- some words are a verb, in version 2 too
record IsVerbIn (words : List (List ℕ)) (verb : Front Verb) : Type 0 where
  name : List ℕ
  operands : List (List ℕ)
  are : words ≡ name ∷ operands
  second : second_verb_at (name ∷ operands) ≡ Ok verb

-- version 1 knows no sleep
no-sleep : (words : List (List ℕ)) → IfOk (operands_at (codes "sleep") words) (λ verb. ⊥)
unfolding operands_at timelines_at session_at viewer_at command_at
no-sleep words = pass (λ verb. ⊥) (time_at words) _ (λ reading. tt)

verb-second : (words : List (List ℕ)) → IfOk (verb_at words) (IsVerbIn words)
unfolding verb_at second_verb_at
verb-second [] = tt
verb-second (name ∷ words) = by (bytes_eq name (codes "sleep")) refl (operands_at name words) refl
  where
    by : (test : Bool) → bytes_eq name (codes "sleep") ≡ test → (read : Result (Front Verb) LineFault)
        → operands_at name words ≡ read → IfOk read (IsVerbIn (name ∷ words))
    by test e (Err fault) same = tt
    by false e (Ok verb) same = record {
      name = name;
      operands = words;
      are = refl;
      second = ap (λ (b : Bool). if b then Ok (Sleep, words) else operands_at name words) e ∙ same;
    }
    by true e (Ok verb) same =
        absurd (ok-range (λ (front : Front Verb). ⊥) (operands_at (codes "sleep") words) verb (no-sleep words)
        (ap (λ (n : List ℕ). operands_at n words) (sym ((bytes_eq-Decides name (codes "sleep")).0 e)) ∙ same))

-- Words are those of a line: they begin with three that are no verb, and with the companion's number as the third one
-- they are the line in version 2.
pub record AreLine (words : List (List ℕ)) (line : Line) : Type 0 where
  pub t : List ℕ
  pub w : List ℕ
  pub l : List ℕ
  pub name : List ℕ
  pub operands : List (List ℕ)
  pub are : words ≡ t ∷ w ∷ l ∷ name ∷ operands
  pub second : lines.second_of_words 1 (t ∷ w ∷ codes "1" ∷ l ∷ name ∷ operands) ≡ Ok line

-- the number of the one companion
pub one-read : (most : ℕ) (rest : List (List ℕ)) → 1 < most → number_at most (codes "1" ∷ rest) ≡ Ok (1, rest)
unfolding number_at
one-read most rest some =
    ap (λ (b : Bool). or_form (if b then Some 1 else None) >>= λ n. Ok (n, rest)) (lt-ltb 1 most some)

pub line-words : (words : List (List ℕ)) → IfOk (line_of_words words) (AreLine words)
unfolding line_of_words lines.second_of_words
line-words words =
    after_whole (IsWord time_at words) (AreLine words) (time_at words) _ (number-word LIMIT words) (λ t ht.
    after_whole (IsWord time_at t.1) (AreLine words) (time_at t.1) _ (number-word LIMIT t.1) (λ w hw.
    after_whole (IsWord time_at w.1) (AreLine words) (time_at w.1) _ (number-word LIMIT w.1) (λ l hl.
    after_whole (IsVerbIn l.1) (AreLine words) (verb_at l.1) _ (verb-second l.1) (λ verb hv.
    after_whole (λ (u : Unit {0}). all_read verb.1 ≡ Ok u) (AreLine words) (all_read verb.1) _
    (itself (all_read verb.1))
    (λ end he.
    let rest = hv.name ∷ hv.operands in
    record {
      t = ht.word;
      w = hw.word;
      l = hl.word;
      name = hv.name;
      operands = hv.operands;
      are = cc;
      second = rw (
        ht.again (hw.word ∷ codes "1" ∷ hl.word ∷ rest),
        hw.again (codes "1" ∷ hl.word ∷ rest),
        one-read 2 (hl.word ∷ rest) (omega arith),
        hl.again rest,
        hv.second,
        he,
      ) refl;
    })))))
