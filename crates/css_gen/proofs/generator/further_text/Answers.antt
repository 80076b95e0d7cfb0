use Rattle.std.proofs.Common.{rules}
use Rattle.css_gen.specs.Bounds.{IsSmall}
use Rattle.css_gen.proofs.Awake.{next-first}
use Rattle.css_gen.proofs.Ranges.{next-range}
use Rattle.css_gen.proofs.generator.further_text.Goals as goal

pub print_line-requires-clause-line : goal.print_line-requires-clause-line
print_line-requires-clause-line c =
    let small : IsSmall c.in_ok-next.next = search rules in
    rw c.next.ensures.line (next-range c.in_ok-next.next small)

pub print_line-requires-clause-of : goal.print_line-requires-clause-of
print_line-requires-clause-of c = rw c.next.ensures.line (next-first c.in_ok-next.next)
