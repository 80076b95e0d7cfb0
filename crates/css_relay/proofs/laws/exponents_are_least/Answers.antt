use Rattle.css_relay.proofs.Exponents as proved
use Rattle.css_relay.proofs.laws.exponents_are_least.Goals as goal

pub returns : goal.returns
returns c = proved.exponents_are_least
