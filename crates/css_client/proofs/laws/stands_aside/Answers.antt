use Rattle.css_client.proofs.Aside as aside
use Rattle.css_client.proofs.laws.stands_aside.Goals as goal

pub returns : goal.returns
returns c = aside.stands_aside
