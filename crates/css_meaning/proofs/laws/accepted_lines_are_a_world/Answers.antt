use Rattle.css_meaning.proofs.Truth.{accepted_lines_are_world}
use Rattle.css_meaning.proofs.laws.accepted_lines_are_a_world.Goals as goal

pub returns : goal.returns
returns c = accepted_lines_are_world
