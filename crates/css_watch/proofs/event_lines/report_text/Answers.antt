use Rattle.std.proofs.Common.{◌≡◌, ◌∙◌, subst, sym, Bool, cond, [], ◌∷◌}
use Rattle.std.specs.Prelude.{IfOk}
use Rattle.css_watch.specs.Telling.{due_line, text_of}
use Rattle.css_watch.proofs.event_lines.report_text.Goals as goal

pub returns-then-reports_now : goal.returns-then-reports_now
returns-then-reports_now c history k answers of =
    let P : Bool → Type 0 = λ b. IfOk c.due_line.result (λ text. text ≡ text_of (cond b (due_line c.args.plan.now
    c.args.reading history c.args.progress.now answers ∷ []) [])) in
    subst P (sym (sym c.reports_now.ensures ∙ c.if-reports_now.true)) (c.due_line.ensures history k answers of)
