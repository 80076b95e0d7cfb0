-- The object is plain, so its text is read back as it.
use Rattle.std.proofs.Common.{◌≤◌, ◌∙◌, ap, sym, subst, Ok}
use Rattle.std.proofs.lemmas.Result.{IfOk-weaker}
use Rattle.serde_json.specs.Data.{Data, depth}
use Rattle.serde_json.specs.Read.{max_depth}
use Rattle.serde_json.specs.Written.{compact_text}
use Rattle.css_text.specs.CompactTexts.{IsPlain}
use Rattle.css_text.specs.Readings.{members_or_fault}
use Rattle.css_tsmsg.proofs.RoundTrips.{setup_plain, setup_shallow, setup_back, setup_text-is}
use Rattle.css_tsmsg.proofs.writing.write_setup.Goals as goal

pub write_value-requires-clause-plain : goal.write_value-requires-clause-plain
write_value-requires-clause-plain c = subst IsPlain (sym c.in_ok-value.ensures) (setup_plain c.args.setup.now)

pub write_value-requires-clause-shallow : goal.write_value-requires-clause-shallow
write_value-requires-clause-shallow c =
    let P : Data → Type 0 = λ value. depth value ≤ max_depth in
    subst P (sym c.in_ok-value.ensures) (setup_shallow c.args.setup.now)

pub returns-clause-text : goal.returns-clause-text
returns-clause-text c =
    IfOk-weaker c.write_value.result _ _ (λ text is.
    is ∙ ap compact_text c.in_ok-value.ensures ∙ setup_text-is c.args.setup.now) c.write_value.ensures.text

pub returns-clause-read_back : goal.returns-clause-read_back
returns-clause-read_back c = IfOk-weaker c.write_value.result _ _
    (λ text told.
    setup_back c.args.setup.now text (told ∙ ap (λ value. members_or_fault (Ok value)) c.in_ok-value.ensures))
    c.write_value.ensures.read_back
