use Rattle.std.proofs.Common.{◌≡◌, ◌∙◌, ap, subst, sym, [], ◌∷◌}
use Rattle.std.specs.Prelude.{IfOk}
use Rattle.css_agree.specs.Told.{agreed_of}
use Rattle.css_agree.specs.declared.agreed.Agreed.{Agreed}
use Rattle.css_watch.specs.Telling.{report_line, text_of}
use Rattle.css_watch.proofs.event_lines.due_line.Goals as goal

pub returns : goal.returns
returns c history k answers of =
    let P : Agreed → Type 0 = λ x. IfOk c.report_line.result (λ text. text ≡ text_of (report_line
    c.args.plan.now c.counted-number.result c.args.reading history c.args.progress.now x ∷ [])) in
    rw (sym c.counted-number.ensures.value) (subst P (c.at-said.ensures.value answers of.stands
    ∙ ap (λ own. agreed_of own c.args.reading answers) of.local) (c.report_line.ensures history k))
