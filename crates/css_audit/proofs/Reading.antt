-- The reader of a record stands for one text more.
use Rattle.std.proofs.Common.{◌≡◌, ap, sym, subst, ◌∙◌, refl, List, [], ◌∷◌, ◌++◌, ◌+◌, length}
use Rattle.std.specs.Prelude.{ℕ, Some, None, Result, Ok, Err, OnOk, MatchResult}
use Rattle.std.proofs.lemmas.List.{append-nil}
use Rattle.std.proofs.lemmas.List.Elements.{All-push}
use Rattle.css_companion.specs.declared.config.CompanionConfig.{CompanionConfig}
use Rattle.css_lines.specs.Answers.{Answers, MayFault}
use Rattle.css_lines.specs.declared.reader.LineFault as engine
use Rattle.css_audit.specs.Auditing.{lines_after, lines_in, silent, meant_after, text_meant}
use Rattle.css_audit.specs.Inputs.{header_of, line_of}
use Rattle.css_audit.specs.Reading.{IsRead, IsMeant, Stands, verdict_of}
use Rattle.css_audit.specs.Standing.{Audit, config_of, StandsFor}
use Rattle.css_audit.specs.Verdicts.{Verdict, with_line}
use Rattle.css_audit.specs.declared.fault.AuditFault.{AuditFault}
use Rattle.css_audit.specs.declared.input.RecordLine.{RecordLine}
use Rattle.css_audit.specs.declared.reader.Auditing.{Auditing}
use Rattle.css_schedule.specs.declared.fault.LineFault as schedule

-- the lines of texts, one text more
lines_after-push : (older : List RecordLine) (texts : List (List ℕ)) (text : List ℕ)
    → lines_after older (texts ++ text ∷ []) ≡ with_line (lines_after older texts) (line_of text)
lines_after-push older [] text = refl
lines_after-push older (t ∷ texts) text = lines_after-push (with_line older (line_of t)) texts text

-- equal values that are there are equal
same_Some : {A : Type 0} (x y : A) → Some x ≡ Some y → x ≡ y
same_Some x y e = cc

-- the reader stands for one line more
stood : (reader : Auditing) (old new : Audit) (text : List ℕ) → reader.audit ≡ Some old
    → config_of new.companion ≡ config_of old.companion → IsRead text
    → ((older : List RecordLine) → StandsFor old older → StandsFor new (with_line older (line_of text)))
    → (before : List (List ℕ)) → Stands reader before
    → Stands (record reader { audit = Some new }) (before ++ text ∷ [])
stood reader old new text there keeps read goes [] stands =
    let none : None ≡ Some old = sym stands ∙ there in
    absurd (cc)
stood reader old new text there keeps read goes (first ∷ texts) stands =
    let same : stands.0 ≡ old = same_Some stands.0 old (sym stands.1 ∙ there) in (
      new,
      refl,
      stands.2 ∙ ap (λ (a : Audit). Ok (config_of a.companion)) same ∙ ap Ok (sym keeps),
      All-push IsRead texts text stands.3 read,
      subst (StandsFor new) (sym (lines_after-push [] texts text))
          (goes (lines_in texts) (subst (λ (a : Audit). StandsFor a (lines_in texts)) same stands.4)),
    )

-- so it is where the line was taken
pub stands-line : (number : ℕ) (reader : Auditing) (old new : Audit) (text : List ℕ)
    (result : Result (Unit {0}) (engine.LineFault AuditFault)) → reader.audit ≡ Some old
    → config_of new.companion ≡ config_of old.companion → OnOk result (IsRead text)
    → OnOk result ((older : List RecordLine) → StandsFor old older → StandsFor new (with_line older (line_of text)))
    → OnOk result ((before : List (List ℕ)) → Stands reader before → number ≡ length before + 1
    → Stands (record reader { audit = Some new }) (before ++ text ∷ []))
stands-line number reader old new text (Ok done) there keeps read goes = λ before stands is.
    stood reader old new text there keeps read goes before stands
stands-line number reader old new text (Err fault) there keeps read goes = tt

-- what is meant of a line is its verdict after those before it
meant-is : (read : Result CompanionConfig schedule.LineFault) (audit : Audit) (older : List RecordLine)
    (text : List ℕ) → read ≡ Ok (config_of audit.companion)
    → meant_after read older (line_of text) ≡ silent (verdict_of audit older text)
meant-is read audit older text e = ap (λ r. meant_after r older (line_of text)) e

-- what is answered is the verdict
answers-verdict : (verdict : Verdict) (meant : Result (List ℕ) AuditFault) (out : List ℕ)
    (result : Result (Unit {0}) (engine.LineFault AuditFault)) → meant ≡ silent verdict
    → MatchResult result (λ _. verdict ≡ Ok tt) (MayFault (silent verdict)) → Answers meant out out result
answers-verdict verdict meant out (Ok done) is right =
    record { cases = ([], is ∙ ap silent right, sym (append-nil out)) }
answers-verdict verdict meant out (Err fault) is may =
    record { cases = (subst (λ (m : Result (List ℕ) AuditFault). MayFault m fault) (sym is) may, refl) }

-- a line is answered as it is meant
pub answers-line : (reader : Auditing) (old : Audit) (text : List ℕ) (out : List ℕ)
    (result : Result (Unit {0}) (engine.LineFault AuditFault)) → reader.audit ≡ Some old
    → ((older : List RecordLine) → StandsFor old older → IsMeant old older text result)
    → (before : List (List ℕ)) → Stands reader before → Answers (text_meant before text) out out result
answers-line reader old text out result there meant [] stands =
    let none : None ≡ Some old = sym stands ∙ there in
    absurd (cc)
answers-line reader old text out result there meant (first ∷ texts) stands =
    let same : stands.0 ≡ old = same_Some stands.0 old (sym stands.1 ∙ there) in
    answers-verdict (verdict_of old (lines_in texts) text) _ out result
    (meant-is (header_of first) old (lines_in texts) text
    (stands.2 ∙ ap (λ (a : Audit). Ok (config_of a.companion)) same))
    (meant (lines_in texts) (subst (λ (a : Audit). StandsFor a (lines_in texts)) same stands.4))
