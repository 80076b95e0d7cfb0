use Rattle.css_model.proofs.Narrowest as narrowest
use Rattle.css_model.proofs.laws.narrowest_is_least.Goals as goal

pub returns : goal.returns
returns c = narrowest.narrowest_is_least
