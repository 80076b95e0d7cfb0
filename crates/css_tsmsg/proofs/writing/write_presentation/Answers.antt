-- The object is plain, so its text is read back as it.
use Rattle.std.proofs.Common.{◌≤◌, ◌∙◌, ap, sym, subst, Ok}
use Rattle.std.proofs.lemmas.Result.{IfOk-weaker}
use Rattle.serde_json.specs.Data.{Data, depth}
use Rattle.serde_json.specs.Read.{max_depth}
use Rattle.serde_json.specs.Written.{compact_text}
use Rattle.css_text.specs.CompactTexts.{IsPlain}
use Rattle.css_text.specs.Readings.{members_or_fault}
use Rattle.css_tsmsg.proofs.Windows.{presentation_plain, presentation_shallow, presentation_back, presentation_text-is}
use Rattle.css_tsmsg.proofs.writing.write_presentation.Goals as goal

pub write_value-requires-clause-plain : goal.write_value-requires-clause-plain
write_value-requires-clause-plain c =
    subst IsPlain (sym c.in_ok-value.ensures) (presentation_plain c.args.presentation.now)

pub write_value-requires-clause-shallow : goal.write_value-requires-clause-shallow
write_value-requires-clause-shallow c =
    let P : Data → Type 0 = λ value. depth value ≤ max_depth in
    subst P (sym c.in_ok-value.ensures) (presentation_shallow c.args.presentation.now)

pub returns-clause-text : goal.returns-clause-text
returns-clause-text c =
    IfOk-weaker c.write_value.result _ _ (λ text is.
    is ∙ ap compact_text c.in_ok-value.ensures ∙ presentation_text-is c.args.presentation.now)
    c.write_value.ensures.text

pub returns-clause-read_back : goal.returns-clause-read_back
returns-clause-read_back c = IfOk-weaker c.write_value.result _ _
    (λ text told.
    presentation_back c.args.presentation.now text c.requires
    (told ∙ ap (λ value. members_or_fault (Ok value)) c.in_ok-value.ensures))
    c.write_value.ensures.read_back
