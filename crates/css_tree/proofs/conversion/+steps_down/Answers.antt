-- The steps to the parent come first.
use Rattle.std.proofs.Common.{◌≡◌, ◌∙◌, sym, arith, false, rules}
use Rattle.std.proofs.lemmas.Bool.Decides.{nat_tests}
use Rattle.std.specs.Prelude.{◌==◌}
use Rattle.css_tree.proofs.Forests.{parent-before}
use Rattle.css_tree.proofs.Paths.{down-root, down-up}
use Rattle.css_tree.proofs.conversion.+steps_down.Goals as goal

pub steps_down-requires : goal.steps_down-requires
steps_down-requires t c =
    let before = parent-before c.args.nodes.now c.args.id c.in-Some.parent c.requires.forest (sym c.in-Some.ensures) in
    (omega (arith, before, c.decreases), (c.requires.forest, c.requires.ticks))

pub returns-in-None-clause-value : goal.returns-in-None-clause-value
returns-in-None-clause-value t c =
    let other : (c.args.id == c.args.top) ≡ false = grind (arith, nat_tests) in
    c.step_down.ensures.value ∙ sym
    (down-root c.args.nodes.now c.args.top c.args.id c.args.span (sym c.in-None.ensures) other)

pub returns-in_err-above-in-Some-clause-value : goal.returns-in_err-above-in-Some-clause-value
returns-in_err-above-in-Some-clause-value t c =
    let other : (c.args.id == c.args.top) ≡ false = grind (arith, nat_tests) in
    let up =
    down-up c.args.nodes.now c.args.top c.args.id c.in-Some.parent c.args.span c.requires.forest
    (sym c.in-Some.ensures) other in
    rw up (search rules)

pub returns-in_ok-above-in-Some-clause-value : goal.returns-in_ok-above-in-Some-clause-value
returns-in_ok-above-in-Some-clause-value t c =
    let other : (c.args.id == c.args.top) ≡ false = grind (arith, nat_tests) in
    let up =
    down-up c.args.nodes.now c.args.top c.args.id c.in-Some.parent c.args.span c.requires.forest
    (sym c.in-Some.ensures) other in
    rw up (search rules)
