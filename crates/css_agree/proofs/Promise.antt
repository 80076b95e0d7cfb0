-- What is printed of answers keeps the promise, however a run ends.
use Rattle.std.proofs.Common.{◌≡◌, ℕ, ◌+◌, inl, inr, ap, sym, subst, ◌∙◌, refl, Bool, true, false}
use Rattle.std.proofs.Common.{List, [], ◌∷◌, ◌++◌, length}
use Rattle.std.specs.Prelude.{pos, ◌-◌, nat_lt, if◌then◌else◌, Option, Some, None, Result, Ok, Err}
use Rattle.std.proofs.lemmas.List.{append_assoc, append-nil}
use Rattle.css_model.specs.WallClock.{Local}
use Rattle.css_span.specs.Frontiers.{Answers}
use Rattle.css_outside.specs.Bytes.{IsPrefix}
use Rattle.css_lines.specs.Lines.{lines_of}
use Rattle.css_lines.specs.Meaning.{Meaning, outcome, outcome_so_far, finish_outcome}
use Rattle.css_lines.specs.Ending.{Finishes, Stops}
use Rattle.css_lines.specs.declared.reader.Refusal.{Refusal}
use Rattle.css_lines.specs.declared.reader.Refusal.TheVariants.{Refused}
use Rattle.css_lines.specs.declared.ending.Stop.{Stop}
use Rattle.css_lines.proofs.Induction.{taken_so_far, taken_in_all, keeps_done, keeps_stop}
use Rattle.css_schedule.specs.declared.fault.LineFault.{LineFault}
use Rattle.css_agree.specs.declared.input.AnswerLine.{AnswerLine}
use Rattle.css_agree.specs.declared.input.AnswerLine.TheVariants as lines
use Rattle.css_agree.specs.declared.reader.Cause.{Cause}
use Rattle.css_agree.specs.declared.reader.Cause.TheVariants.{Form, Broken}
use Rattle.css_agree.specs.declared.naming.Naming.{Naming}
use Rattle.css_agree.specs.declared.reader.Agreeing.{Agreeing}
use Rattle.css_agree.specs.Agreements.{DeclareInRange}
use Rattle.css_agree.specs.Agreeing.{Numbered, with_line, lines_in, answers_in, line_text, in_order, line_meant}
use Rattle.css_agree.specs.Agreeing.{read_meant, meant_after, opened, text_meant, agreeing}
use Rattle.css_agree.specs.Inputs.{reading_of, line_of, local_of}
use Rattle.css_agree.specs.Printed.{at_text}
use Rattle.css_agree.specs.Naming.{followed, line_names, named_in, names_after, names_meant, naming}
use Rattle.css_agree.specs.NamesKept.{StandsNamed}
use Rattle.css_agree.specs.Naming.{read_names}
use Rattle.css_agree.specs.Promise.{IsAgreedAt, IsTold, IsToldNamed, AreNamed, AreTold, KeepsPromise, Promised}
use Rattle.css_agree.specs.Promise.{PromisedNamed, PromisedOf}
use Rattle.css_agree.specs.Reading.{Stands}
use Rattle.css_agree.proofs.Inputs.{lines-in_range, local_of-range}
use Rattle.css_agree.proofs.Pairs.{are_named}
use Rattle.css_agree.proofs.Reading.{lines_in-push}
use Rattle.css_agree.proofs.Shown.{says, true_of, shown}

-- ---- one line
-- what answers that are in range say together is printed, and is true
pub agreed_at : (own : Local) (added : Answers) (number reading : ℕ) → DeclareInRange added
    → IsAgreedAt own added number reading (at_text own number reading added)
agreed_at own added number reading most =
    let said = says own reading added in
    record {
      agreed = said.0;
      says = said.1;
      is_true = true_of own reading added said.0 most said.1;
      is_printed = shown own number reading added said.0 said.1;
    }

-- each line is told so
told : (own : Local) (older : List Numbered) (number : ℕ) (line : AnswerLine) → DeclareInRange (answers_in own older)
    → IsTold own older number line (line_text own number line (answers_in own older))
told own older number (lines.Answer answer) most = refl
told own older number (lines.At reading) most = agreed_at own (answers_in own older) number reading most

-- what is meant of an accepted line is its text
ordered-is : (earlier last reading : ℕ) (text printed : List ℕ) → in_order earlier last reading text ≡ Ok printed
    → text ≡ printed
ordered-is earlier last reading text printed = by (nat_lt reading last)
  where
    by : (b : Bool) → (if b then Err (Broken earlier (pos (last - reading))) else Ok text) ≡ Ok printed → text ≡ printed
    by true e = absurd (cc)
    by false e = cc

meant-is : (own : Local) (older : List Numbered) (number : ℕ) (line : AnswerLine) (printed : List ℕ)
    → line_meant own older number line ≡ Ok printed → line_text own number line (answers_in own older) ≡ printed
meant-is own [] number line printed e = cc
meant-is own (last ∷ older) number line printed e =
    ordered-is last.number (reading_of last.line) (reading_of line)
    (line_text own number line (answers_in own (last ∷ older))) printed e

-- an accepted line that isn't the header was read
read-is : (own : Local) (older : List Numbered) (number : ℕ) (printed : List ℕ) (line : Result AnswerLine LineFault)
    → read_meant own older number line ≡ Ok printed
    → (read : AnswerLine) × (line ≡ Ok read) × (line_meant own older number read ≡ Ok printed)
read-is own older number printed (Err fault) e = absurd (cc)
read-is own older number printed (Ok line) e = (line, refl, e)

-- ---- what a reader tells
pub record Tells (Told : Local → List Numbered → ℕ → AnswerLine → List ℕ → Type 0) (meaning : Meaning Cause)
    : Type 0 where
  pub header : (text printed : List ℕ) → meaning.line [] text ≡ Ok printed
      → (own : Local) × (local_of text ≡ Ok own) × (printed ≡ [])
  pub line : (own : Local) (first : List ℕ) (texts : List (List ℕ)) (text printed : List ℕ) → local_of first ≡ Ok own
      → meaning.line (first ∷ texts) text ≡ Ok printed
      → (line : AnswerLine) × (line_of text ≡ Ok line)
      × Told own (lines_in texts) (length (first ∷ texts) + 1) line printed
  pub silent : (before : List (List ℕ)) → (verdict : Option (ℕ × Refusal Cause))
      × (finish_outcome meaning before ≡ record { printed = []; verdict = verdict })

-- the reader without names
plain-header : (text printed : List ℕ) → text_meant [] text ≡ Ok printed
    → (own : Local) × (local_of text ≡ Ok own) × (printed ≡ [])
plain-header text printed e = by (local_of text) refl e
  where
    by : (r : Result Local LineFault) → local_of text ≡ r → opened r ≡ Ok printed
        → (own : Local) × (local_of text ≡ Ok own) × (printed ≡ [])
    by (Err fault) is p = absurd (cc)
    by (Ok own) is p = (own, is, cc)

plain-line : (own : Local) (first : List ℕ) (texts : List (List ℕ)) (text printed : List ℕ) → local_of first ≡ Ok own
    → text_meant (first ∷ texts) text ≡ Ok printed
    → (line : AnswerLine) × (line_of text ≡ Ok line)
    × IsTold own (lines_in texts) (length (first ∷ texts) + 1) line printed
plain-line own first texts text printed header e =
    let older = lines_in texts in
    let number = length (first ∷ texts) + 1 in
    let read = read-is own older number printed (line_of text)
    (subst (λ (r : Result Local LineFault). meant_after r older number (line_of text) ≡ Ok printed) header e) in (
      read.0,
      read.1,
      subst (λ (p : List ℕ). IsTold own older number read.0 p) (meant-is own older number read.0 printed read.2)
          (told own older number read.0 (lines-in_range own texts)),
    )

-- nothing is printed at the end
silent : (before : List (List ℕ)) → (verdict : Option (ℕ × Refusal Cause))
    × (finish_outcome agreeing before ≡ record { printed = []; verdict = verdict })
silent [] = (Some (1, Refused Form), refl)
silent (first ∷ texts) = (None, refl)

plain : Tells IsTold agreeing
plain = record { header = plain-header; line = plain-line; silent = silent }

-- ---- the reader with names
named-is : (meant : Result (List ℕ) Cause) (more printed : List ℕ) → followed meant more ≡ Ok printed
    → (text : List ℕ) × (meant ≡ Ok text) × (printed ≡ text ++ more)
named-is (Err cause) more printed e = absurd (cc)
named-is (Ok text) more printed e = (text, refl, cc)

named-header : (text printed : List ℕ) → naming.line [] text ≡ Ok printed
    → (own : Local) × (local_of text ≡ Ok own) × (printed ≡ [])
named-header text printed e =
    let parts = named-is (text_meant [] text) [] printed e in
    let plain = plain-header text parts.0 parts.1 in
    (plain.0, plain.1, parts.2 ∙ append-nil parts.0 ∙ plain.2)

named-line : (own : Local) (first : List ℕ) (texts : List (List ℕ)) (text printed : List ℕ) → local_of first ≡ Ok own
    → naming.line (first ∷ texts) text ≡ Ok printed
    → (line : AnswerLine) × (line_of text ≡ Ok line)
    × IsToldNamed own (lines_in texts) (length (first ∷ texts) + 1) line printed
named-line own first texts text printed header e =
    let older = lines_in texts in
    let number = length (first ∷ texts) + 1 in
    let parts = named-is (text_meant (first ∷ texts) text) (names_meant (first ∷ texts) text) printed e in
    let plain = plain-line own first texts text parts.0 header parts.1 in
    let more : names_meant (first ∷ texts) text ≡ line_names own number plain.0 (named_in own older) =
    ap (λ (r : Result Local LineFault). names_after r older number (line_of text)) header
    ∙ ap (read_names own older number) plain.1 in (
      plain.0,
      plain.1,
      (
        parts.0,
        names_meant (first ∷ texts) text,
        parts.2,
        plain.2,
        subst (AreNamed own older number plain.0) (sym more)
            (are_named own older number plain.0 (local_of-range first own header) (lines-in_range own texts)),
      ),
    )

named : Tells IsToldNamed naming
named = record { header = named-header; line = named-line; silent = silent }

-- ---- the texts that were taken
abbrev Taken : (Local → List Numbered → ℕ → AnswerLine → List ℕ → Type 0) → List (List ℕ) → List ℕ → Type 0
Taken Told [] printed = printed ≡ []
Taken Told (first ∷ texts) printed =
    (own : Local) × (local_of first ≡ Ok own) × AreTold Told own (lines_in texts) printed

-- ---- whatever a reader tells of each line, it tells of all
module _ (Told : Local → List Numbered → ℕ → AnswerLine → List ℕ → Type 0) (meaning : Meaning Cause)
    (tells : Tells Told meaning) where
  -- one text more: the header, or a line
  one_more : (before : List (List ℕ)) (text so_far printed : List ℕ) → Taken Told before so_far
      → meaning.line before text ≡ Ok printed → Taken Told (before ++ text ∷ []) (so_far ++ printed)
  one_more [] text so_far printed taken e =
      let header = tells.header text printed e in
      (header.0, header.1, rw (taken, header.2) refl)
  one_more (first ∷ texts) text so_far printed taken e =
      let own = taken.0 in
      let number = length (first ∷ texts) + 1 in
      let last = tells.line own first texts text printed taken.1 e in
      let pushed : lines_in (texts ++ text ∷ []) ≡ record { number = number; line = last.0 } ∷ lines_in texts =
      lines_in-push first texts text ∙ ap (with_line number (lines_in texts)) last.1 in (
        own,
        taken.1,
        subst (λ (ls : List Numbered). AreTold Told own ls (so_far ++ printed)) (sym pushed)
            (so_far, printed, refl, last.2, taken.2),
      )

  -- ---- runs
  -- what was taken keeps the promise
  promise_by : (bytes : List ℕ) (texts rest : List (List ℕ)) (printed : List ℕ) → lines_of bytes ≡ texts ++ rest
      → Taken Told texts printed → KeepsPromise Told bytes printed
  promise_by bytes [] rest printed parts taken = inl taken
  promise_by bytes (first ∷ texts) rest printed parts taken = inr (record {
    first = first;
    texts = texts;
    rest = rest;
    are_lines = parts;
    own = taken.0;
    is_header = taken.1;
    whole = printed;
    front = ([], sym (append-nil printed));
    told = taken.2;
  })

  so_far : (bytes : List ℕ) → KeepsPromise Told bytes (outcome_so_far meaning bytes).printed
  so_far bytes =
      let of = taken_so_far meaning (Taken Told) one_more tells.silent refl bytes in
      promise_by bytes of.texts of.rest _ of.parts of.taken

  in_all : (bytes : List ℕ) → KeepsPromise Told bytes (outcome meaning bytes).printed
  in_all bytes =
      let of = taken_in_all meaning (Taken Told) one_more tells.silent refl bytes in
      promise_by bytes of.texts of.rest _ of.parts of.taken

  -- a front part keeps it too
  front_keeps : (bytes part whole : List ℕ) → IsPrefix part whole → KeepsPromise Told bytes whole
      → KeepsPromise Told bytes part
  front_keeps bytes part whole prefix (inl none) = inl (no_front part prefix.0 (sym none ∙ prefix.1))
    where
      no_front : (xs ys : List ℕ) → [] ≡ xs ++ ys → xs ≡ []
      no_front [] ys e = refl
      no_front (x ∷ xs) ys e = absurd (cc)
  front_keeps bytes part whole prefix (inr kept) = inr (record {
    first = kept.first;
    texts = kept.texts;
    rest = kept.rest;
    are_lines = kept.are_lines;
    own = kept.own;
    is_header = kept.is_header;
    whole = kept.whole;
    front = (
      prefix.0 ++ kept.front.0,
      kept.front.1 ∙ ap (λ w. w ++ kept.front.0) prefix.1
          ∙ append_assoc part prefix.0 kept.front.0,
    );
    told = kept.told;
  })

  -- a run that read all
  done : {Reader : Type 0} (stands : Reader → List (List ℕ) → Type 0)
      (left_old left_new holds_old holds_new : Option (List ℕ)) (reader : Reader)
      → Finishes meaning stands left_old left_new holds_old holds_new reader
      → PromisedOf Told left_old left_new holds_old holds_new
  done stands left_old left_new holds_old holds_new reader f = record {
    read = f.read;
    printed = f.printed;
    took = f.took;
    grew = f.grew;
    keeps = keeps_done meaning (KeepsPromise Told) so_far in_all front_keeps f.read f.printed f.all;
  }

  -- a run that stopped
  stopped : (left_old left_new holds_old holds_new : Option (List ℕ)) (stop : Stop Cause)
      → Stops meaning left_old left_new holds_old holds_new stop
      → PromisedOf Told left_old left_new holds_old holds_new
  stopped left_old left_new holds_old holds_new stop s = record {
    read = s.read;
    printed = s.printed;
    took = s.took;
    grew = s.grew;
    keeps = keeps_stop meaning (KeepsPromise Told) so_far in_all front_keeps s.read s.printed left_new stop s.ends;
  }

pub promised_done : (left_old left_new holds_old holds_new : Option (List ℕ)) (reader : Agreeing)
    → Finishes agreeing Stands left_old left_new holds_old holds_new reader
    → Promised left_old left_new holds_old holds_new
promised_done = done IsTold agreeing plain Stands

pub promised_stop : (left_old left_new holds_old holds_new : Option (List ℕ)) (stop : Stop Cause)
    → Stops agreeing left_old left_new holds_old holds_new stop → Promised left_old left_new holds_old holds_new
promised_stop = stopped IsTold agreeing plain

pub named_done : (left_old left_new holds_old holds_new : Option (List ℕ)) (reader : Naming)
    → Finishes naming StandsNamed left_old left_new holds_old holds_new reader
    → PromisedNamed left_old left_new holds_old holds_new
named_done = done IsToldNamed naming named StandsNamed

pub named_stop : (left_old left_new holds_old holds_new : Option (List ℕ)) (stop : Stop Cause)
    → Stops naming left_old left_new holds_old holds_new stop → PromisedNamed left_old left_new holds_old holds_new
named_stop = stopped IsToldNamed naming named
