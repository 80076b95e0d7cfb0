use Rattle.css_limits.proofs.Young.{young_clocks_tell_more}
use Rattle.css_limits.proofs.laws.young_clocks_tell_more.Goals as goal

pub returns : goal.returns
returns c = young_clocks_tell_more
