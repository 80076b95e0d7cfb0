use Rattle.css_meaning.proofs.Truth.{accepted_lines_are_true}
use Rattle.css_meaning.proofs.laws.accepted_lines_are_true.Goals as goal

pub returns : goal.returns
returns c = accepted_lines_are_true
