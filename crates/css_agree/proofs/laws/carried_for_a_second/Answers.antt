use Rattle.css_agree.proofs.Carrying as carrying
use Rattle.css_agree.proofs.laws.carried_for_a_second.Goals as goal

pub returns : goal.returns
returns c = carrying.carried_for_a_second
