use Rattle.css_laws.proofs.ReadOff.{read_off}
use Rattle.css_laws.proofs.laws.numbers_are_read_off.Goals as goal

pub returns : goal.returns
returns c = read_off
