use Rattle.css_agree.proofs.Alike as alike
use Rattle.css_agree.proofs.laws.ends_move_alike.Goals as goal

pub returns : goal.returns
returns c = alike.ends_move_alike
