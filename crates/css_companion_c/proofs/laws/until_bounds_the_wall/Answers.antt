use Rattle.css_companion_c.proofs.Narrow as narrow
use Rattle.css_companion_c.proofs.laws.until_bounds_the_wall.Goals as goal

pub returns : goal.returns
returns c = narrow.bounds_the_wall
