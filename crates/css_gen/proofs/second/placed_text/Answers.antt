use Rattle.std.proofs.Common.{arith}
use Rattle.css_gen.proofs.CrowdRanges.{placed-range, placed-second}
use Rattle.css_gen.proofs.second.placed_text.Goals as goal

pub print_line-requires-clause-line : goal.print_line-requires-clause-line
print_line-requires-clause-line c = rw c.in_ok-line_placed.ensures (placed-range c.args.place)

pub print_line-requires-clause-of : goal.print_line-requires-clause-of
print_line-requires-clause-of c =
    rw c.in_ok-line_placed.ensures (placed-second 16 c.args.place c.requires.low (omega (arith, c.requires.high)))
