use Rattle.css_premises.proofs.Runs.{has_second_hop}
use Rattle.css_premises.proofs.laws.second_hops_can_be_met.Goals as goal

pub returns : goal.returns
returns c = has_second_hop
