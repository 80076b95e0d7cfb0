-- The parent comes before, and has one clock less above it.
use Rattle.std.proofs.Common.{sym, ap, arith, length}
use Rattle.css_tree.proofs.Forests.{parent-before, lineage-up}
use Rattle.css_tree.proofs.lineage.+depth.Goals as goal

pub depth-requires : goal.depth-requires
depth-requires t c =
    let before = parent-before c.args.nodes.now c.args.id c.in-Some.parent c.requires (sym c.in-Some.ensures) in
    (omega (arith, before, c.decreases), c.requires)

pub overflow_add-result : goal.overflow_add-result
overflow_add-result t c =
    omega (arith, parent-before c.args.nodes.now c.args.id c.in-Some.parent c.requires (sym c.in-Some.ensures))

pub returns-in-Some-clause-value : goal.returns-in-Some-clause-value
returns-in-Some-clause-value t c =
    omega (
      arith,
      c.depth.ensures.value,
      ap length (lineage-up c.args.nodes.now c.args.id c.in-Some.parent c.requires (sym c.in-Some.ensures)),
    )

pub returns-in-Some-clause-few : goal.returns-in-Some-clause-few
returns-in-Some-clause-few t c =
    omega (arith, parent-before c.args.nodes.now c.args.id c.in-Some.parent c.requires (sym c.in-Some.ensures))
