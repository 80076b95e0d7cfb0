use Rattle.css_server.proofs.Rising as rising
use Rattle.css_server.proofs.laws.no_promise_is_repeated.Goals as goal

pub returns : goal.returns
returns c = rising.no_promise_is_repeated
