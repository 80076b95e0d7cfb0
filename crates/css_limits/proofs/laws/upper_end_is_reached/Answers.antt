use Rattle.css_limits.proofs.Limits as limits
use Rattle.css_limits.proofs.laws.upper_end_is_reached.Goals as goal

pub returns : goal.returns
returns c = limits.upper_end_is_reached
