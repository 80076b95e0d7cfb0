use Rattle.css_server.proofs.Rising as rising
use Rattle.css_server.proofs.laws.pairs_are_exchanges.Goals as goal

pub returns : goal.returns
returns c = rising.pairs_are_exchanges
