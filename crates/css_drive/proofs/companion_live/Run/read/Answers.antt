use Rattle.std.proofs.Common.{ap}
use Rattle.css_drive.proofs.CompanionSteps.{at_err}
use Rattle.css_drive.proofs.companion_live.Run.read.Goals as goal

pub returns-in-Err-clause-told : goal.returns-in-Err-clause-told
returns-in-Err-clause-told g c =
    c.end_of.ensures.failed _ _ _ c.in_ok-check.ensures.on c.in-Err.ensures.told c.in-Err.ensures.counted.faults
    (ap (λ x. x.dial_faults) c.in-Err.ensures.counted.same)

pub returns-in_err-check-clause-told : goal.returns-in_err-check-clause-told
returns-in_err-check-clause-told g c = at_err _ _ _ _ c.from_residual.ensures.1 (c.in_err-check.ensures.unmade _)
