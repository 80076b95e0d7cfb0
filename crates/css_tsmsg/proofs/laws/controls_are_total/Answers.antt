use Rattle.css_tsmsg.proofs.Never.{not_memory}
use Rattle.css_tsmsg.proofs.laws.controls_are_total.Goals as goal

pub returns : goal.returns
returns c = not_memory
