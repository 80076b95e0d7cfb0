use Rattle.std.proofs.Common.{◌≡◌, ℕ, subst, sym, Option}
use Rattle.std.specs.Prelude.{IfOk}
use Rattle.css_watch_lines.specs.Lines.{EndedBetween, line_text}
use Rattle.css_watch_lines.specs.declared.known.Between.{Between}
use Rattle.css_watch.specs.Progress.{told_number}
use Rattle.css_watch.specs.Visits.{ended_with}
use Rattle.css_watch.proofs.visit.ended_line.Goals as goal

pub returns-in-Some : goal.returns-in-Some
returns-in-Some c =
    let P : Option Between → Type 0 = λ x. IfOk c.apart_end_line.result (λ text. text ≡ line_text (ended_with
    (told_number c.args.progress.now.begun.visits) c.args.why.now x c.args.progress.now.unread)) in
    let N : ℕ → Type 0 = λ n. IfOk c.apart_end_line.result (λ text. text ≡ line_text (EndedBetween n c.args.why.now
    c.in-Some.between)) in
    subst P (sym c.in-Some.is) (subst N c.told_number-number.ensures.value c.apart_end_line.ensures.text)
