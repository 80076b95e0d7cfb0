-- The line of the wall clock's span is a span's line.
use Rattle.std.proofs.Common.{◌≡◌, ℕ, ℤ, List, ◌++◌, to_z, of_z, codes, decimal}
use Rattle.css_world.proofs.Names.{w128, to_z-of_z, ends_line, wall_line}
use Rattle.css_world.proofs.Appending.{on_ok}
use Rattle.css_world.proofs.printed.print_span.Goals as goal

told : (before after : List ℕ) (number : ℕ) (lo hi : ℤ) (w : ℕ) (low high : ℤ) → low ≡ lo → high ≡ hi
    → after ≡ before ++ ends_line number (codes " wall ") low high (decimal w)
    → after ≡ before ++ wall_line number (record { lo = lo; hi = hi }) w
told before after number lo hi w low high a b written = rw a at (rw b at written)

pub returns-clause-ok : goal.returns-clause-ok
returns-clause-ok c =
    on_ok c.print_ends.result
    (told c.args.out.now.items c.print_ends.new.out.items c.args.number c.args.lo c.args.hi c.args.w
    (to_z w128 (of_z w128 c.args.lo)) (to_z w128 (of_z w128 c.args.hi))
    (to_z-of_z w128 c.args.lo c.ranges.lo) (to_z-of_z w128 c.args.hi c.ranges.hi))
    c.print_ends.ensures.ok
