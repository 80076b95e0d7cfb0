use Rattle.css_relay.proofs.TwoHops as proved
use Rattle.css_relay.proofs.laws.true_is_truthful.Goals as goal

pub returns : goal.returns
returns c = proved.true_is_truthful
