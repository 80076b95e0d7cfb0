use Rattle.css_client.proofs.Judging as judging
use Rattle.css_client.proofs.laws.landings_are_judged.Goals as goal

pub returns : goal.returns
returns c = judging.landings_are_judged
