use Rattle.css_companion.proofs.Headline as proved
use Rattle.css_companion.proofs.laws.headline.Goals as goal

pub returns : goal.returns
returns c = proved.headline
