-- The object is plain, so its text is read back as it.
use Rattle.std.proofs.Common.{◌≤◌, ◌∙◌, ap, sym, subst, Ok}
use Rattle.std.proofs.lemmas.Result.{IfOk-weaker}
use Rattle.serde_json.specs.Data.{Data, object, depth}
use Rattle.serde_json.specs.Read.{max_depth}
use Rattle.serde_json.specs.Written.{compact_text}
use Rattle.serde_json.proofs.Views.{view-Object}
use Rattle.css_text.specs.CompactTexts.{IsPlain}
use Rattle.css_text.specs.Readings.{members_or_fault}
use Rattle.css_cii.proofs.RoundTrips.{message_back, text_is, plain_change, shallow_change}
use Rattle.css_cii.proofs.writing.write_message.Goals as goal

pub write_value-requires-clause-plain : goal.write_value-requires-clause-plain
write_value-requires-clause-plain c =
    subst IsPlain (sym (view-Object c.in_ok-map.map ∙ ap object c.in_ok-map.ensures.members))
    (plain_change c.args.change.now c.in_ok-map.ensures.in_range)

pub write_value-requires-clause-shallow : goal.write_value-requires-clause-shallow
write_value-requires-clause-shallow c =
    let P : Data → Type 0 = λ value. depth value ≤ max_depth in
    subst P (sym (view-Object c.in_ok-map.map ∙ ap object c.in_ok-map.ensures.members))
    (shallow_change c.args.change.now)

pub returns-clause-text : goal.returns-clause-text
returns-clause-text c = IfOk-weaker c.write_value.result _ _
    (λ text is. is ∙ ap compact_text (view-Object c.in_ok-map.map ∙ ap object c.in_ok-map.ensures.members)
    ∙ text_is c.args.change.now)
    c.write_value.ensures.text

pub returns-clause-read_back : goal.returns-clause-read_back
returns-clause-read_back c = IfOk-weaker c.write_value.result _ _
    (λ text told. message_back c.args.change.now text c.in_ok-map.ensures.in_range (told ∙ ap (λ value.
    members_or_fault (Ok value)) (view-Object c.in_ok-map.map ∙ ap object c.in_ok-map.ensures.members)))
    c.write_value.ensures.read_back
