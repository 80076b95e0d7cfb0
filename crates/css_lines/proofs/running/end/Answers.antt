use Rattle.css_lines.proofs.Steps.{concludes}
use Rattle.css_lines.proofs.running.end.Goals as goal

pub returns-clause-all : goal.returns-clause-all
returns-clause-all g c start read p =
    let all = c.in_ok-take_last.ensures.all start read p in
    concludes _ _ start read _ _ _ _ _ _ all (c.conclude.ensures.taken _ all.stood) c.conclude.ensures.stands
