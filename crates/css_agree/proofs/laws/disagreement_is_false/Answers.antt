use Rattle.css_agree.proofs.Disagreements as disagreements
use Rattle.css_agree.proofs.laws.disagreement_is_false.Goals as goal

pub returns : goal.returns
returns c = disagreements.disagreement_is_false
