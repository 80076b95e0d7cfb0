-- What is promised of the lines that are printed for answers, in the words of their subject.
use Rattle.std.specs.Prelude.{ℕ, ◌≡◌, ◌⊎◌, false, List, [], ◌∷◌, ◌++◌, Option, Ok, All, Contains}
use Rattle.std.specs.Io.KnownBytes.{Appends, Consumes}
use Rattle.css_model.specs.WallClock.{Local}
use Rattle.css_span.specs.Frontiers.{Answers}
use Rattle.css_outside.specs.Bytes.{IsPrefix}
use Rattle.css_lines.specs.Lines.{lines_of}
use Rattle.css_agree.specs.declared.agreed.Agreed.{Agreed}
use Rattle.css_agree.specs.declared.input.AnswerLine.{AnswerLine}
use Rattle.css_agree.specs.declared.input.AnswerLine.TheVariants as lines
use Rattle.css_agree.specs.declared.named.End.TheVariants.{Low, High}
use Rattle.css_agree.specs.declared.named.Named.{Named}
use Rattle.css_agree.specs.Agreements.{AgreesAt, CantBothBeTrue, Contradict, DeclareInRange, TellsTruth}
use Rattle.css_agree.specs.Agreeing.{Numbered, lines_in, answers_in}
use Rattle.css_agree.specs.Disagreements.{disagree}
use Rattle.css_agree.specs.Inputs.{local_of}
use Rattle.css_agree.specs.Named.{Leads}
use Rattle.css_agree.specs.Naming.{between_line, named_in}
use Rattle.css_agree.specs.Printed.{added_text, agreed_text, at_text}
use Rattle.css_agree.specs.Verdicts.{verdict}

-- What is printed is what the answers added say together at the reading: the span that all of them share, two of them
-- that contradict each other, or that there is none. The span contains the television's wall clock in every world that
-- keeps the oscillators' errors and makes all of them truthful; no such world makes the two truthful.
pub record IsAgreedAt (own : Local) (added : Answers) (number reading : ℕ) (printed : List ℕ) : Type 0 where
  pub agreed : Agreed
  pub says : AgreesAt own reading added agreed
  pub is_true : TellsTruth own reading added agreed
  pub is_printed : printed ≡ agreed_text own number reading agreed

-- Nothing is printed for an answer, unless it is impossible.
abbrev pub IsTold : Local → List Numbered → ℕ → AnswerLine → List ℕ → Type 0
IsTold own older number (lines.Answer answer) printed = printed ≡ added_text number (verdict own answer.t4 answer)
IsTold own older number (lines.At reading) printed = IsAgreedAt own (answers_in own older) number reading printed

-- Two lines are named. Their answers contradict each other, so no world that keeps the oscillators' errors makes both
-- truthful. No answer of an earlier line has the same end, before it is rounded.
pub record ArePaired (own : Local) (older : List Numbered) (number reading : ℕ) (printed : List ℕ) : Type 0 where
  pub low : Named
  pub high : Named
  pub low_is : Contains (named_in own older) low
  pub high_is : Contains (named_in own older) high
  pub low_leads : All (Leads Low own reading low) (named_in own older)
  pub high_leads : All (Leads High own reading high) (named_in own older)
  pub apart : Contradict own reading (answers_in own older) low.answer high.answer
  pub is_true : CantBothBeTrue own reading low.answer high.answer
  pub is_printed : printed ≡ between_line number low.number high.number

-- behind a line's text two lines are named where the answers disagree, and nothing is printed elsewhere
abbrev pub AreNamed : Local → List Numbered → ℕ → AnswerLine → List ℕ → Type 0
AreNamed own older number (lines.Answer answer) printed = printed ≡ []
AreNamed own older number (lines.At reading) printed =
    ((disagree own reading (answers_in own older) ≡ false) × (printed ≡ []))
    ⊎ ArePaired own older number reading printed

-- the same is printed as without names, and the names behind it
abbrev pub IsToldNamed : Local → List Numbered → ℕ → AnswerLine → List ℕ → Type 0
IsToldNamed own older number line printed = (text : List ℕ) × (more : List ℕ) × (printed ≡ text ++ more)
    × IsTold own older number line text × AreNamed own older number line more

-- So it is for each of the lines, the newest of which stands first.
abbrev pub AreTold : (Local → List Numbered → ℕ → AnswerLine → List ℕ → Type 0) → Local → List Numbered → List ℕ
    → Type 0
AreTold Told own [] printed = printed ≡ []
AreTold Told own (now ∷ older) printed =
    (before : List ℕ) × (last : List ℕ) × (printed ≡ before ++ last) × Told own older now.number now.line last
    × AreTold Told own older before

-- What was printed is a front part of what is printed for lines of the input, from its header on.
pub record PromiseKept (Told : Local → List Numbered → ℕ → AnswerLine → List ℕ → Type 0) (bytes printed : List ℕ)
    : Type 0 where
  pub first : List ℕ
  pub texts : List (List ℕ)
  pub rest : List (List ℕ)
  pub are_lines : lines_of bytes ≡ (first ∷ texts) ++ rest
  pub own : Local
  pub is_header : local_of first ≡ Ok own
  pub whole : List ℕ
  pub front : IsPrefix printed whole
  pub told : AreTold Told own (lines_in texts) whole

-- Whatever the input says, what is printed of it keeps the promise.
abbrev pub KeepsPromise : (Local → List Numbered → ℕ → AnswerLine → List ℕ → Type 0) → List ℕ → List ℕ → Type 0
KeepsPromise Told bytes printed = (printed ≡ []) ⊎ PromiseKept Told bytes printed

-- A run took some bytes from the source and added something to the sink, and this keeps the promise of those bytes.
pub record PromisedOf (Told : Local → List Numbered → ℕ → AnswerLine → List ℕ → Type 0)
    (left_old left_new holds_old holds_new : Option (List ℕ)) : Type 0 where
  pub read : List ℕ
  pub printed : List ℕ
  pub took : Consumes left_old left_new read
  pub grew : Appends holds_old holds_new printed
  pub keeps : KeepsPromise Told read printed

abbrev pub Promised : Option (List ℕ) → Option (List ℕ) → Option (List ℕ) → Option (List ℕ) → Type 0
Promised left_old left_new holds_old holds_new = PromisedOf IsTold left_old left_new holds_old holds_new

-- so it is of a run that names two lines where the answers disagree
abbrev pub PromisedNamed : Option (List ℕ) → Option (List ℕ) → Option (List ℕ) → Option (List ℕ) → Type 0
PromisedNamed left_old left_new holds_old holds_new = PromisedOf IsToldNamed left_old left_new holds_old holds_new

-- What is printed of answers that declare what is in range keeps the promise.
abbrev pub PrintedIsTrue : Type 0
PrintedIsTrue = (own : Local) (added : Answers) (number reading : ℕ) → DeclareInRange added
    → IsAgreedAt own added number reading (at_text own number reading added)
