use Rattle.css_limits.proofs.Histories.{follow_ups_have_limits}
use Rattle.css_limits.proofs.laws.follow_ups_have_limits.Goals as goal

pub returns : goal.returns
returns c = follow_ups_have_limits
