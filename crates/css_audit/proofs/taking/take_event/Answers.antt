use Rattle.css_audit.specs.Entries.{history_in}
use Rattle.css_audit.proofs.Refusals.{gives-wrong}
use Rattle.css_audit.proofs.Telling.{tells}
use Rattle.css_audit.proofs.taking.take_event.Goals as goal

pub returns-in_err-step-clause-verdict : goal.returns-in_err-step-clause-verdict
returns-in_err-step-clause-verdict c =
    gives-wrong c.args.companion.now c.args.event c.in_err-step.field-0.0 c.from_residual.result c.requires.recorded
    c.in_err-step.ensures.answer c.from_residual.ensures.1

pub returns-clause-tells : goal.returns-clause-tells
returns-clause-tells c = λ older keeps.
    tells c.step.new.self older c.args.event c.requires.recorded
    (λ entry is. c.in_ok-step.ensures.stands (history_in older) entry keeps.told is)
