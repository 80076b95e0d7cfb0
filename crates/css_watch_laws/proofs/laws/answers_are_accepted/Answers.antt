use Rattle.css_watch_laws.proofs.Accepted as proved
use Rattle.css_watch_laws.proofs.laws.answers_are_accepted.Goals as goal

pub returns : goal.returns
returns c = proved.answers_of
