use Rattle.css_agree.proofs.Carrying as carrying
use Rattle.css_agree.proofs.laws.carried_spans_are_true.Goals as goal

pub returns : goal.returns
returns c = carrying.carried_spans_are_true
