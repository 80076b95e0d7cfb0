use Rattle.css_carry.proofs.Carried as proved
use Rattle.css_carry.proofs.laws.carried_spans_have_ticks.Goals as goal

pub returns : goal.returns
returns c = proved.carried_spans_have_ticks
