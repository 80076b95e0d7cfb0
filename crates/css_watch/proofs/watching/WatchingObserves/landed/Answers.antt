use Rattle.std.proofs.Common.{◌∙◌, subst}
use Rattle.css_drive.specs.Notes as notes
use Rattle.css_watch.specs.Watching.{Wakes}
use Rattle.css_watch.specs.declared.plan.Plan.{Plan}
use Rattle.css_watch.proofs.Telling as telling
use Rattle.css_watch.proofs.watching.WatchingObserves.landed.Goals as goal

pub returns : goal.returns
returns g c from k started older on s = (
  c.land.ensures.sink_name ∙ s.0,
  c.land.ensures.plan ∙ s.1,
  λ a. let P : Plan → Type 0 = λ x. Wakes x c.args.clocked.now.slept c.args.self.now.progress.now c.wake.new.progress
      c.args.self.now.agree.now c.wake.new.agree in
      telling.woke_on started.plan.now started.progress.now from c.args.clocked.now.slept
      (notes.Landed c.args.clocked.now.reading c.args.bytes.now) older _ _ _ _ _ _ _ _ _
      _ _ _ _ _ _ _ on s.2 (subst P s.1 c.wake.ensures)
      (λ e. telling.steps_as _ started.plan.now from.config c.args.companion.now
      (notes.Landed c.args.clocked.now.reading c.args.bytes.now) _ _ _ _ _ _ _ _ _ _ _ s.1 e k
      c.land.ensures.steps) a,
)
