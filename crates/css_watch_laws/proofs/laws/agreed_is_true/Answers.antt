use Rattle.css_watch_laws.proofs.Carried as proved
use Rattle.css_watch_laws.proofs.laws.agreed_is_true.Goals as goal

pub returns : goal.returns
returns c = proved.agreed_is_true
