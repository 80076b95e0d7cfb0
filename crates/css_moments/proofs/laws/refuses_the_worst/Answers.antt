use Rattle.css_moments.proofs.Pairs.{refuses_the_worst}
use Rattle.css_moments.proofs.laws.refuses_the_worst.Goals as goal

pub returns : goal.returns
returns c = refuses_the_worst
