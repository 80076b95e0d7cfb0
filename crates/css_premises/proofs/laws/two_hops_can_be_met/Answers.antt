use Rattle.css_premises.proofs.Hops.{relayed_exchange_holds}
use Rattle.css_premises.proofs.laws.two_hops_can_be_met.Goals as goal

pub returns : goal.returns
returns c = relayed_exchange_holds
