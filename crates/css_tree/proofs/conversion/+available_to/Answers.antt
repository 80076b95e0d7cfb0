-- What is told of the clocks above is what is told of them all.
use Rattle.std.proofs.Common.{◌≡◌, ◌∙◌, sym, arith, true, false, rules}
use Rattle.std.proofs.lemmas.Bool.Decides.{nat_tests}
use Rattle.std.specs.Prelude.{◌==◌}
use Rattle.css_tree.specs.Trees.{is_available}
use Rattle.css_tree.proofs.Forests.{parent-before}
use Rattle.css_tree.proofs.Paths.{available-up}
use Rattle.css_tree.proofs.conversion.+available_to.Goals as goal

pub available_to-requires : goal.available_to-requires
available_to-requires t c =
    let before = parent-before c.args.nodes.now c.args.id c.in-Some.parent c.requires (sym c.in-Some.ensures) in
    (omega (arith, before, c.decreases), c.requires)

pub returns-in-Some : goal.returns-in-Some
returns-in-Some t c =
    let here : is_available c.args.nodes.now c.args.id ≡ true = search rules in
    let other : (c.args.id == c.args.top) ≡ false = grind (arith, nat_tests) in
    c.available_to.ensures ∙ sym
    (available-up c.args.nodes.now c.args.top c.args.id c.in-Some.parent c.requires (sym c.in-Some.ensures) here
    other)
