use Rattle.std.proofs.Common.{ap, ◌∙◌}
use Rattle.std.specs.Prelude.{Some}
use Rattle.css_app.proofs.Commands.{gives_text, no_text, script_of_text}
use Rattle.css_app.proofs.inputs.take_script_text.Goals as goal

pub returns-in-Ok-take_script-clause-value : goal.returns-in-Ok-take_script-clause-value
returns-in-Ok-take_script-clause-value g c =
    let at = ap (λ s. Some s.left) c.in-Ok.ensures ∙ ap (λ t. Some t) c.deref.ensures.value in
    let script = c.in-Ok-take_script.script.items in
    let taken = script_of_text _ c.in_ok-text.text.items _ script at c.in-Ok-take_script.ensures.value in
    gives_text _ _ c.in_ok-text.text.items c.in_ok-text.ensures.value (script, taken)

pub returns-in-Err-clause-value : goal.returns-in-Err-clause-value
returns-in-Err-clause-value g c =
    no_text _ _ c.in_ok-text.text.items c.in-Err.status c.in_ok-text.ensures.value
    (rw (c.in-Ok.ensures, c.deref.ensures.value) at c.in-Err.ensures.value)
