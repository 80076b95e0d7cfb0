use Rattle.css_limits.proofs.Histories.{responses_have_limits}
use Rattle.css_limits.proofs.laws.responses_have_limits.Goals as goal

pub returns : goal.returns
returns c = responses_have_limits
