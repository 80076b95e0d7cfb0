use Rattle.css_relay.proofs.TwoHops as proved
use Rattle.css_relay.proofs.laws.answers_are_true.Goals as goal

pub returns : goal.returns
returns c = proved.answers_are_true
