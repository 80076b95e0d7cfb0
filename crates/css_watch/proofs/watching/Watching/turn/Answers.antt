use Rattle.std.proofs.Common.{◌∙◌, ap, ap₂, sym, subst, Option}
use Rattle.std.specs.Option.{option_or}
use Rattle.css_agree.specs.Keeping.{Kept}
use Rattle.css_companion.specs.declared.report.Report.{Report}
use Rattle.css_watch.specs.Progress.{after_turn}
use Rattle.css_watch.specs.Watching.{IsOf}
use Rattle.css_watch.proofs.Telling.{says_as}
use Rattle.css_watch.proofs.watching.Watching.turn.Goals as goal

pub returns-clause-steps : goal.returns-clause-steps
returns-clause-steps g c history k answers of =
    let P : Kept → Type 0 = λ x. IsOf c.args.self.now.plan.now x answers in record {
      says = says_as (c.or-parting.ensures ∙ ap₂ option_or c.late-late.ensures c.closed_before.ensures)
          (c.say.ensures.said _ (c.turn_text-text.ensures history k answers of));
      progress_so = λ none. c.say.ensures.progress ∙ c.after_turn.ensures
          ∙ ap (λ (due : Option Report). after_turn c.args.reading due c.args.self.now.progress.now)
          (c.report_due-due.ensures history k);
      agree_so = λ none. subst P (sym c.say.ensures.agree) of;
    }
