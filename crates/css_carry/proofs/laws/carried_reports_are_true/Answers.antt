use Rattle.css_carry.proofs.Carried as proved
use Rattle.css_carry.proofs.laws.carried_reports_are_true.Goals as goal

pub returns : goal.returns
returns c = proved.carried_reports_are_true
