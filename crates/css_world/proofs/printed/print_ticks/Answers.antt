-- The line of a report is a span's line.
use Rattle.std.proofs.Common.{◌≡◌, ℕ, ℤ, List, ◌++◌, append_assoc, ap, ◌∙◌, to_z, of_z, Some, codes}
use Rattle.css_companion.specs.declared.report.Report.TheVariants.{Ticks}
use Rattle.css_world.proofs.Names.{signed_decimal, w128, to_z-of_z, line_of, ends_line}
use Rattle.css_world.proofs.Appending.{on_ok}
use Rattle.css_world.proofs.printed.print_ticks.Goals as goal

-- how the pieces are put together doesn't matter
same_line : (number : ℕ) (lo hi position : ℤ) → ends_line number (codes " ticks ") lo hi (signed_decimal position)
    ≡ line_of number (Ticks lo hi) (Some position)
same_line number lo hi position = simp append_assoc

told : (before after : List ℕ) (number : ℕ) (lo hi position low high place : ℤ) → low ≡ lo → high ≡ hi
    → place ≡ position → after ≡ before ++ ends_line number (codes " ticks ") low high (signed_decimal place)
    → after ≡ before ++ line_of number (Ticks lo hi) (Some position)
told before after number lo hi position low high place a b d written =
    rw a at (rw b at (rw d at (written ∙ ap (λ line. before ++ line) (same_line number low high place))))

pub returns-else-is_err-clause-ok : goal.returns-else-is_err-clause-ok
returns-else-is_err-clause-ok c =
    on_ok c.print_ends-printed.result
    (told c.args.out.now.items c.print_ends-printed.new.out.items c.args.number c.args.lo c.args.hi c.args.position
    (to_z w128 (of_z w128 c.args.lo)) (to_z w128 (of_z w128 c.args.hi)) (to_z w128 (of_z w128 c.args.position))
    (to_z-of_z w128 c.args.lo c.ranges.lo) (to_z-of_z w128 c.args.hi c.ranges.hi)
    (to_z-of_z w128 c.args.position c.ranges.position))
    c.print_ends-printed.ensures.ok
