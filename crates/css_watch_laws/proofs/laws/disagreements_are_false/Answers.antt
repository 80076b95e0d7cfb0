use Rattle.css_watch_laws.proofs.Contradictions as proved
use Rattle.css_watch_laws.proofs.laws.disagreements_are_false.Goals as goal

pub returns : goal.returns
returns c = proved.disagreements_are_false
