use Rattle.css_cii.proofs.Never.{not_memory}
use Rattle.css_cii.proofs.messages_are_total.Goals as goal

pub returns : goal.returns
returns c = not_memory
