use Rattle.css_limits.proofs.Limits as limits
use Rattle.css_limits.proofs.laws.none_is_narrower.Goals as goal

pub returns : goal.returns
returns c = limits.none_is_narrower
