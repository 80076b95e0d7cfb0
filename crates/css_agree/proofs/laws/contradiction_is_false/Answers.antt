use Rattle.css_agree.proofs.Truth as truth
use Rattle.css_agree.proofs.laws.contradiction_is_false.Goals as goal

pub returns : goal.returns
returns c = truth.contradiction_is_false
