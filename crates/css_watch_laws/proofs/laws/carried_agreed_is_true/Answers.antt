use Rattle.css_watch_laws.proofs.Carried as proved
use Rattle.css_watch_laws.proofs.laws.carried_agreed_is_true.Goals as goal

pub returns : goal.returns
returns c = proved.carried_agreed_is_true
