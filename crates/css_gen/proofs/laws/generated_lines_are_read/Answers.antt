use Rattle.css_gen.proofs.Reading.{generated_read}
use Rattle.css_gen.proofs.laws.generated_lines_are_read.Goals as goal

pub returns : goal.returns
returns c = generated_read
