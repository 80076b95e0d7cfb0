use Rattle.std.proofs.Common.{subst, true}
use Rattle.css_watch.specs.Watching.{Wakes}
use Rattle.css_watch.specs.declared.plan.Plan.{Plan}
use Rattle.css_watch.proofs.Telling as telling
use Rattle.css_watch.proofs.watching.WatchingObserves.slept.Goals as goal

pub returns : goal.returns
returns g c from started older on s = (
  s.0,
  s.1,
  λ a. let P : Plan → Type 0 = λ x. Wakes x true c.args.self.now.progress.now c.wake.new.progress
      c.args.self.now.agree.now c.wake.new.agree in
      telling.slept_on started.plan.now started.progress.now from older _ _ _ _ _ _ _ _ _ _ on (s.2 a.1)
      (subst P s.1 c.wake.ensures),
)
