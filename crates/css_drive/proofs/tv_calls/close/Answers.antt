use Rattle.std.proofs.Common.{◌++◌, ◌∙◌, ap, append-nil}
use Rattle.css_drive.proofs.TvSteps.{heard_of, owing}
use Rattle.css_drive.proofs.tv_calls.close.Goals as goal

pub returns-in-Ok : goal.returns-in-Ok
returns-in-Ok c from now air place rest x =
    let done = rw c.new-none.ensures.items at c.in-Ok.ensures.outcome in
    owing place (ap (λ os. rest ++ os) done.out ∙ append-nil rest)
    (heard_of x c.step.new.self c.step.new.out.items done c.in-Ok.ensures.stands c.in-Ok.ensures.server)
