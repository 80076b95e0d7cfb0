use Rattle.css_agree.proofs.Truth as truth
use Rattle.css_agree.proofs.laws.agreement_is_true.Goals as goal

pub returns : goal.returns
returns c = truth.agreement_is_true
