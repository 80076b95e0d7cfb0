use Rattle.css_premises.proofs.Answers.{opposite_delays_hold, set_anew_holds}
use Rattle.css_premises.proofs.laws.agreements_can_be_met.Goals as goal

pub returns-clause-agreement : goal.returns-clause-agreement
returns-clause-agreement c = opposite_delays_hold

pub returns-clause-contradiction : goal.returns-clause-contradiction
returns-clause-contradiction c = set_anew_holds
