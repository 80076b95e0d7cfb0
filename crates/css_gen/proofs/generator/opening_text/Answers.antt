use Rattle.css_gen.proofs.Awake.{opening-first}
use Rattle.css_gen.proofs.Ranges.{opening-range}
use Rattle.css_gen.proofs.generator.opening_text.Goals as goal

pub print_line-requires-clause-line : goal.print_line-requires-clause-line
print_line-requires-clause-line c = rw c.in_ok-opening_line.ensures (opening-range c.args.number)

pub print_line-requires-clause-of : goal.print_line-requires-clause-of
print_line-requires-clause-of c = rw c.in_ok-opening_line.ensures (opening-first c.args.number)
