use Rattle.css_agree.proofs.Carrying as carrying
use Rattle.css_agree.proofs.laws.carrying_is_true.Goals as goal

pub returns : goal.returns
returns c = carrying.carrying_is_true
