use Rattle.std.proofs.Common.{◌∙◌}
use Rattle.css_drive.specs.Notes as notes
use Rattle.css_watch.proofs.Telling as telling
use Rattle.css_watch.proofs.watching.WatchingObserves.heard.Goals as goal

pub returns : goal.returns
returns g c from k started older on s = (
  c.hear.ensures.sink_name ∙ s.0,
  c.hear.ensures.plan ∙ s.1,
  telling.told_on started.plan.now started.progress.now from (notes.Heard c.args.session c.args.text.now) older _ _ _ _
      _ _ _ _ _ _ _ _ _ _ on s.2
      (λ e. telling.steps_as _ started.plan.now from.config c.args.companion.now
      (notes.Heard c.args.session c.args.text.now) _ _ _ _ _ _ _ _ _ _ _ s.1 e k c.hear.ensures.steps),
)
