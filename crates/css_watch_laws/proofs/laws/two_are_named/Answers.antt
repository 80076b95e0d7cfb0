use Rattle.css_watch_laws.proofs.Contradictions as proved
use Rattle.css_watch_laws.proofs.laws.two_are_named.Goals as goal

pub returns : goal.returns
returns c = proved.two_are_named
