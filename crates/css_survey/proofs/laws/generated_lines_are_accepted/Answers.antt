use Rattle.css_survey.proofs.Accepted.{generated_accepted}
use Rattle.css_survey.proofs.laws.generated_lines_are_accepted.Goals as goal

pub returns : goal.returns
returns c = generated_accepted
