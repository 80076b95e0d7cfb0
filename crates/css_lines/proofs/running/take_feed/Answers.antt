use Rattle.std.proofs.Common.{arith, sym, subst, refl}
use Rattle.css_lines.specs.Progress.{Stopped}
use Rattle.css_lines.proofs.Steps.{stop_feed, takes_line}
use Rattle.css_lines.proofs.running.take_feed.Goals as goal

pub returns-then-pending-longest_input-clause-progress : goal.returns-then-pending-longest_input-clause-progress
returns-then-pending-longest_input-clause-progress g c start read p =
    let limit = c.longest_input.ensures.value _ p.stood in
    subst (Stopped _ start read _ _) (sym c.too_long.ensures) (stop_feed _ _ start read _ _ _ p 10 refl (omega arith))

pub returns-clause-progress : goal.returns-clause-progress
returns-clause-progress g c start read p =
    let limit = c.longest_input.ensures.value _ p.stood in
    takes_line _ _ start read _ _ _ p _ _ _ 10 _ refl (omega arith)
    (c.take_line.ensures.taken _ p.stood p.taken) c.take_line.ensures.stands
    c.take_line.ensures.text c.take_line.ensures.number c.take_line.ensures.count
