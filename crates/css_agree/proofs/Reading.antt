-- The reader of answers stands for one text more.
use Rattle.std.proofs.Common.{◌≡◌, ◌⊎◌, inl, inr, ℕ, suc, ◌+◌, ◌-◌, arith, ap, sym, subst, ◌∙◌, refl, Bool}
use Rattle.std.proofs.Common.{true, false, List, [], ◌∷◌, ◌++◌, length}
use Rattle.std.specs.Prelude.{ℤ, pos, int_lt, nat_lt, if◌then◌else◌, Some, None, Result, Ok, Err}
use Rattle.std.proofs.lemmas.Bool.{ltb-true}
use Rattle.css_model.specs.WallClock.{Answer, Local, scaled_width}
use Rattle.css_span.specs.Frontiers.{Answers as Added}
use Rattle.css_lines.specs.Answers.{Answers, MayFault}
use Rattle.css_lines.specs.declared.reader.LineFault as engine
use Rattle.css_lines.specs.declared.reader.LineFault.TheVariants as engines
use Rattle.css_agree.specs.declared.input.AnswerLine.{AnswerLine}
use Rattle.css_agree.specs.declared.reader.Cause.{Cause}
use Rattle.css_agree.specs.declared.reader.Cause.TheVariants.{Broken}
use Rattle.css_agree.specs.declared.reader.Agreeing.{Agreeing}
use Rattle.css_agree.specs.Agreeing.{Numbered, with_answer, with_line, lines_after, lines_in, answers_in, line_text}
use Rattle.css_agree.specs.Agreeing.{in_order, line_meant, read_meant, opened}
use Rattle.css_agree.specs.Inputs.{reading_of, line_of, local_of}
use Rattle.css_agree.specs.Agreements.{AgreesAt}
use Rattle.css_agree.specs.Keeping.{Kept, StandsFor}
use Rattle.css_agree.specs.Printed.{at_text, agreed_text}
use Rattle.css_agree.specs.Verdicts.{verdict}
use Rattle.css_agree.specs.declared.agreed.Agreed.{Agreed}
use Rattle.css_agree.specs.declared.fault.AgreeFault.{AgreeFault}
use Rattle.css_agree.specs.declared.fault.AgreeFault.TheVariants.{Impossible, Memory}
use Rattle.css_agree.proofs.Shown.{shown}
use Rattle.css_agree.specs.Reading.{Keeps, IsLast, Stands, order_of}

-- ---- the lines of texts, one text more
lines_after-push : (number : ℕ) (older : List Numbered) (texts : List (List ℕ)) (text : List ℕ)
    → lines_after number older (texts ++ text ∷ []) ≡ with_line (number + length texts) (lines_after number older texts)
    (line_of text)
lines_after-push number older [] text = ap (λ (n : ℕ). with_line n older (line_of text)) (omega arith)
lines_after-push number older (t ∷ texts) text =
    lines_after-push (suc number) (with_line number older (line_of t)) texts text
    ∙ ap (λ (n : ℕ). with_line n (lines_after (suc number) (with_line number older (line_of t)) texts) (line_of text))
    (omega arith)

pub lines_in-push : (first : List ℕ) (texts : List (List ℕ)) (text : List ℕ)
    → lines_in (texts ++ text ∷ []) ≡ with_line (length (first ∷ texts) + 1) (lines_in texts) (line_of text)
lines_in-push first texts text =
    lines_after-push 2 [] texts text ∙ ap (λ (n : ℕ). with_line n (lines_in texts) (line_of text)) (omega arith)

push-length : (texts : List (List ℕ)) (text : List ℕ) → length (texts ++ text ∷ []) ≡ length texts + 1
push-length [] text = omega arith
push-length (t ∷ texts) text = omega (arith, push-length texts text)

-- ---- what a line that was read is meant to print
in_order-ok : (earlier last reading : ℕ) (printed : List ℕ) → order_of earlier last reading ≡ Ok tt
    → in_order earlier last reading printed ≡ Ok printed
in_order-ok earlier last reading printed = by (nat_lt reading last)
  where
    cause : Cause
    cause = Broken earlier (pos (last - reading))

    by : (b : Bool) → (if b then Err (engines.Refused cause) else Ok (tt {0})) ≡ Ok (tt {0})
        → (if b then Err cause else Ok printed) ≡ Ok printed
    by true e = absurd (cc)
    by false e = refl

-- a refusal is one fault
same_fault : (one other : engine.LineFault Cause) (result : Result (Unit {0}) (engine.LineFault Cause))
    → result ≡ Err one → result ≡ Err other → one ≡ other
same_fault one other result is e = cc

in_order-err : (earlier last reading : ℕ) (printed : List ℕ) (fault : engine.LineFault Cause)
    → order_of earlier last reading ≡ Err fault → MayFault (in_order earlier last reading printed) fault
in_order-err earlier last reading printed fault = by (nat_lt reading last)
  where
    cause : Cause
    cause = Broken earlier (pos (last - reading))

    by : (b : Bool) → (if b then Err (engines.Refused cause) else Ok (tt {0})) ≡ Err fault
        → MayFault (if b then Err cause else Ok printed) fault
    by true e =
        subst (λ (f : engine.LineFault Cause). MayFault {Cause = Cause} (Err cause) f)
        (same_fault (engines.Refused cause) fault (Err (engines.Refused cause)) refl e) refl
    by false e = absurd (cc)

-- without a line before, no reading is refused
never_refused : (earlier reading : ℕ) (fault : engine.LineFault Cause) → order_of earlier 0 reading ≡ Err fault → ⊥
never_refused earlier reading fault = by (nat_lt reading 0) refl
  where
    by : (b : Bool) → nat_lt reading 0 ≡ b
        → (if b then Err (engines.Refused (Broken earlier (pos (0 - reading)))) else Ok (tt {0})) ≡ Err fault → ⊥
    by true is e = omega (arith, ltb-true reading 0 is)
    by false is e = absurd (cc)

-- what is meant of a line whose reading is in order
meant-ok : (own : Local) (older : List Numbered) (earlier last number : ℕ) (line : AnswerLine)
    → IsLast older earlier last
    → order_of earlier last (reading_of line) ≡ Ok tt
    → line_meant own older number line ≡ Ok (line_text own number line (answers_in own older))
meant-ok own [] earlier last number line is e = refl
meant-ok own (now ∷ older) earlier last number line is e =
    in_order-ok now.number (reading_of now.line) (reading_of line)
    (line_text own number line (answers_in own (now ∷ older)))
    (subst (λ (n : ℕ). order_of n (reading_of now.line) (reading_of line) ≡ Ok tt) (sym is.0)
    (subst (λ (r : ℕ). order_of earlier r (reading_of line) ≡ Ok tt) (sym is.1) e))

-- so it is of a text that reads as that line
pub meant-read : (own : Local) (older : List Numbered) (earlier last number : ℕ) (text : List ℕ) (line : AnswerLine)
    → line_of text ≡ Ok line → IsLast older earlier last → order_of earlier last (reading_of line) ≡ Ok tt
    → read_meant own older number (line_of text) ≡ Ok (line_text own number line (answers_in own older))
meant-read own older earlier last number text line read is order =
    ap (read_meant own older number) read ∙ meant-ok own older earlier last number line is order

pub meant-err : (own : Local) (older : List Numbered) (earlier last number : ℕ) (line : AnswerLine)
    (fault : engine.LineFault Cause)
    → IsLast older earlier last → order_of earlier last (reading_of line) ≡ Err fault
    → MayFault (line_meant own older number line) fault
meant-err own [] earlier last number line fault is e =
    absurd (never_refused earlier (reading_of line) fault
    (subst (λ (r : ℕ). order_of earlier r (reading_of line) ≡ Err fault) is e))
meant-err own (now ∷ older) earlier last number line fault is e =
    in_order-err now.number (reading_of now.line) (reading_of line)
    (line_text own number line (answers_in own (now ∷ older)))
    fault
    (subst (λ (n : ℕ). order_of n (reading_of now.line) (reading_of line) ≡ Err fault) (sym is.0)
    (subst (λ (r : ℕ). order_of earlier r (reading_of line) ≡ Err fault) (sym is.1) e))

-- ---- an answer
pub answer-added : (own : Local) (answer : Answer) (others : Added) → verdict own answer.t4 answer ≡ Ok tt
    → with_answer own answer others ≡ answer ∷ others
answer-added own answer others = by (int_lt (scaled_width own answer answer.t4) (pos 0))
  where
    by : (b : Bool) → (if b then Err (Impossible (scaled_width own answer answer.t4)) else Ok (tt {0})) ≡ Ok (tt {0})
        → (if b then others else answer ∷ others) ≡ answer ∷ others
    by true e = absurd (cc)
    by false e = refl

answer-left : (own : Local) (answer : Answer) (others : Added) (fault : AgreeFault)
    → verdict own answer.t4 answer ≡ Err fault → with_answer own answer others ≡ others
answer-left own answer others fault = by (int_lt (scaled_width own answer answer.t4) (pos 0))
  where
    by : (b : Bool) → (if b then Err (Impossible (scaled_width own answer answer.t4)) else Ok (tt {0})) ≡ Err fault
        → (if b then others else answer ∷ others) ≡ others
    by true e = refl
    by false e = absurd (cc)

-- a call that answers that it is impossible
pub impossible-left : (own : Local) (answer : Answer) (others : Added) (fault : AgreeFault) (width : ℤ)
    → fault ≡ Impossible width → (verdict own answer.t4 answer ≡ Err fault) ⊎ (fault ≡ Memory)
    → with_answer own answer others ≡ others
impossible-left own answer others fault width is (inl e) = answer-left own answer others fault e
impossible-left own answer others fault width is (inr memory) =
    let none : Impossible width ≡ Memory = sym is ∙ memory in
    absurd (cc)

-- ---- a question
-- what was added is the text of what the answers say
pub tells : (own : Local) (number reading : ℕ) (added : Added) (agreed : Agreed) (old new : List ℕ)
    → AgreesAt own reading added agreed → new ≡ old ++ agreed_text own number reading agreed
    → Answers {T = Unit {0}} {Cause = Cause} (Ok (at_text own number reading added)) old new (Ok tt)
tells own number reading added agreed old new says e = record {
  cases = (
    at_text own number reading added,
    refl,
    e ∙ ap (λ text. old ++ text) (sym (shown own number reading added agreed says)),
  );
}

-- ---- the reader
-- equal values that are there are equal
same_Some : {A : Type 0} (x y : A) → Some x ≡ Some y → x ≡ y
same_Some x y e = cc

-- it stands for the header
pub stands-header : (reader : Agreeing) (agree : Kept) (number : ℕ) (text : List ℕ) → reader.agree ≡ None
    → (local_of text ≡ Ok agree.local) × StandsFor agree [] × (agree.floor ≡ 0)
    → (before : List (List ℕ)) → Stands reader before → number ≡ length before + 1
    → Stands (record reader { agree = Some agree; last = number }) (before ++ text ∷ [])
stands-header reader agree number text none opened [] stands is = (
  is,
  (agree, refl, opened.0, record { stands = opened.1; last = stands.2; floor = omega (arith, opened.2) }),
)
stands-header reader agree number text none opened (first ∷ texts) stands is =
    let known = stands.1 in
    let there : Some known.0 ≡ None = sym known.1 ∙ none in
    absurd (cc)

-- and for one line more
pub stands-line : (reader : Agreeing) (old new : Kept) (number reading : ℕ) (text : List ℕ) → reader.agree ≡ Some old
    → new.local ≡ old.local
    → ((older : List Numbered) → Keeps old older reader.last reader.reading
    → Keeps new (with_line number older (line_of text)) number reading)
    → (before : List (List ℕ)) → Stands reader before → number ≡ length before + 1
    → Stands (record reader { agree = Some new; last = number; reading = reading }) (before ++ text ∷ [])
stands-line reader old new number reading text there own goes [] stands is =
    let none : None ≡ Some old = sym stands.1 ∙ there in
    absurd (cc)
stands-line reader old new number reading text there own goes (first ∷ texts) stands is =
    let known = stands.1 in
    let same : known.0 ≡ old = same_Some known.0 old (sym known.1 ∙ there) in
    let kept : Keeps old (lines_in texts) reader.last reader.reading =
    subst (λ (k : Kept). Keeps k (lines_in texts) reader.last reader.reading) same known.3 in
    let lines : with_line number (lines_in texts) (line_of text) ≡ lines_in (texts ++ text ∷ []) =
    ap (λ (n : ℕ). with_line n (lines_in texts) (line_of text)) is ∙ sym (lines_in-push first texts text) in (
      omega (arith, is, push-length texts text),
      (
        new,
        refl,
        known.2 ∙ ap (λ (k : Kept). Ok k.local) same ∙ ap Ok (sym own),
        subst (λ (ls : List Numbered). Keeps new ls number reading) lines (goes (lines_in texts) kept),
      ),
    )
