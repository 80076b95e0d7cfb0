use Rattle.css_model.proofs.Wall as wall
use Rattle.css_model.proofs.laws.answers_are_true.Goals as goal

pub returns : goal.returns
returns c = wall.answers_are_true
