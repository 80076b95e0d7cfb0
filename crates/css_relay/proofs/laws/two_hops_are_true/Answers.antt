use Rattle.css_relay.proofs.TwoHops as proved
use Rattle.css_relay.proofs.laws.two_hops_are_true.Goals as goal

pub returns : goal.returns
returns c = proved.two_hops_are_true
