-- What is told of the clocks above is what is told of them all.
use Rattle.std.proofs.Common.{◌≡◌, ◌∙◌, sym, arith, true, rules}
use Rattle.css_tree.specs.Trees.{is_available}
use Rattle.css_tree.proofs.Forests.{parent-before, all_available-up}
use Rattle.css_tree.proofs.lineage.+all_available.Goals as goal

pub all_available-requires : goal.all_available-requires
all_available-requires t c =
    let before = parent-before c.args.nodes.now c.args.id c.in-Some.parent c.requires (sym c.in-Some.ensures) in
    (omega (arith, before, c.decreases), c.requires)

pub returns-in-Some : goal.returns-in-Some
returns-in-Some t c =
    let available : is_available c.args.nodes.now c.args.id ≡ true = search rules in
    c.all_available.ensures ∙ sym
    (all_available-up c.args.nodes.now c.args.id c.in-Some.parent c.requires (sym c.in-Some.ensures) available)
