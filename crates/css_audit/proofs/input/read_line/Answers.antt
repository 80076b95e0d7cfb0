use Rattle.css_audit.proofs.Inputs.{line_in_range}
use Rattle.css_audit.proofs.input.read_line.Goals as goal

pub returns-clause-range : goal.returns-clause-range
returns-clause-range c = line_in_range c.args.bytes.now c.any_line.result c.any_line.ensures
