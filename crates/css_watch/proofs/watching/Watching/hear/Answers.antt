use Rattle.std.proofs.Common.{◌∙◌, ap, sym, subst, List, ℕ, Some, Option}
use Rattle.css_agree.specs.Keeping.{Kept}
use Rattle.css_outside.specs.Bytes.{AppendsPrefix}
use Rattle.css_outside.specs.declared.fault.OutFault.TheVariants as fault
use Rattle.css_drive.specs.Notes as notes
use Rattle.css_watch.specs.Progress.{after_text}
use Rattle.css_watch.specs.Telling.{lines_by, text_of}
use Rattle.css_watch.specs.Watching.{IsOf}
use Rattle.css_watch.specs.declared.progress.Progress.{Progress}
use Rattle.css_watch.proofs.Telling.{no_prefix}
use Rattle.css_watch.proofs.watching.Watching.hear.Goals as goal

pub returns-in-Ts-clause-steps : goal.returns-in-Ts-clause-steps
returns-in-Ts-clause-steps g c history k answers of =
    let P : Kept → Type 0 = λ x. IsOf c.args.self.now.plan.now x answers in record {
      says = c.say.ensures.said _ (c.heard_text-line.ensures history k.stands);
      progress_so = λ none. c.say.ensures.progress
          ∙ ap (λ x. after_text x c.args.text.now history c.args.self.now.progress.now) (sym c.in-Ts.is);
      agree_so = λ none. subst P (sym c.say.ensures.agree) of;
    }

pub returns-in-Ok-clause-steps : goal.returns-in-Ok-clause-steps
returns-in-Ok-clause-steps g c history k answers of =
    let P : Kept → Type 0 = λ x. IsOf c.args.self.now.plan.now x answers in
    let Q : Option (List ℕ) → Progress = λ x. record c.args.self.now.progress.now { unread = x } in
    record {
      says = c.say-in-Ok.ensures.said _ (c.heard_text-line.ensures history k.stands);
      progress_so = λ none. c.say-in-Ok.ensures.progress ∙ ap Q (c.in-Ok.ensures history k.stands)
          ∙ ap (λ x. after_text x c.args.text.now history c.args.self.now.progress.now) (sym c.in-Cii.is);
      agree_so = λ none. subst P (sym c.say-in-Ok.ensures.agree) of;
    }

pub returns-in-Err-clause-steps : goal.returns-in-Err-clause-steps
returns-in-Err-clause-steps g c history k answers of =
    let P : Option (List ℕ) → Type 0 = λ x. AppendsPrefix (g.K.Sink.holds c.args.self.now.sink.now) x
    (text_of (lines_by c.args.self.now.plan.now (notes.Heard c.args.session c.args.text.now) history
    c.args.self.now.progress.now answers)) in
    record {
      says = record {
        cause = Some fault.Memory;
        over_so = c.fail.ensures.over;
        parting_so = c.fail.ensures.parting;
        wrote = (subst P (sym c.fail.ensures.holds) (no_prefix _ _), c.fail.ensures.faults);
      };
      progress_so = λ none. absurd (cc);
      agree_so = λ none. absurd (cc);
    }
