use Rattle.css_gen.proofs.SecondReading.{second_read}
use Rattle.css_gen.proofs.laws.lines_of_several_are_read.Goals as goal

pub returns : goal.returns
returns c = second_read
