use Rattle.std.proofs.Common.{sym}
use Rattle.css_drive.proofs.TvSteps.{heard_of, owing}
use Rattle.css_drive.proofs.tv_calls.play.Goals as goal

pub returns-in-Ok : goal.returns-in-Ok
returns-in-Ok g c place from air x =
    c.put_all.ensures place from air (owing place (sym c.deref.ensures.value) (heard_of x c.step.new.self
    c.step.new.out.items (rw c.new-outs.ensures.items at c.in-Ok.ensures.outcome) c.in-Ok.ensures.stands
    c.in-Ok.ensures.server))
