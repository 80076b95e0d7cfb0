use Rattle.std.proofs.Common.{ap, refl}
use Rattle.css_outside.specs.Outsides.{Counts}
use Rattle.css_drive.proofs.TvSteps.{failed}
use Rattle.css_drive.proofs.tv_calls.read.Goals as goal

pub returns-in-Err-clause-told : goal.returns-in-Err-clause-told
returns-in-Err-clause-told g c from p h t =
    failed t (c.end_of.ensures.failed _ _ _ refl c.in-Err.ensures.told c.in-Err.ensures.counted.faults
    (ap (λ (x : Counts). x.dial_faults) c.in-Err.ensures.counted.same))
