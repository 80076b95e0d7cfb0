use Rattle.css_limits.proofs.Limits as limits
use Rattle.css_limits.proofs.laws.ends_are_reached.Goals as goal

pub returns : goal.returns
returns c = limits.ends_are_reached
