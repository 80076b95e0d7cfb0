use Rattle.std.proofs.Common.{◌∙◌, sym, subst}
use Rattle.css_agree.specs.Keeping.{Kept}
use Rattle.css_drive.specs.Notes as notes
use Rattle.css_watch.specs.Watching.{IsOf}
use Rattle.css_watch.proofs.Telling as telling
use Rattle.css_watch.proofs.watching.WatchingObserves.dialled.Goals as goal

pub returns : goal.returns
returns g c from started older on s = (
  c.say.ensures.sink_name ∙ s.0,
  c.say.ensures.plan ∙ s.1,
  telling.told_on started.plan.now started.progress.now from (notes.Dialled c.args.kind c.args.tried) older _ _ _ _ _ _
      _ _ _ _ _ _ _ _ on s.2
      (λ e answers of. let P : Kept → Type 0 = λ x. IsOf started.plan.now x answers in record {
        says = c.say.ensures.said _ c.dial_text-text.ensures;
        progress_so = λ none. c.say.ensures.progress ∙ c.after_dial.ensures;
        agree_so = λ none. subst P (sym c.say.ensures.agree) of;
      }),
)
