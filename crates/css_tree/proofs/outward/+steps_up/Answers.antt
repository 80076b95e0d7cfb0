-- The steps from the parent come after the clock's own.
use Rattle.std.proofs.Common.{◌≡◌, sym, arith, false, rules}
use Rattle.std.proofs.lemmas.Bool.Decides.{nat_tests}
use Rattle.std.specs.Prelude.{◌==◌}
use Rattle.css_tree.proofs.Forests.{parent-before}
use Rattle.css_tree.proofs.Paths.{up-root, up-up, up-first}
use Rattle.css_tree.proofs.outward.+steps_up.Goals as goal

pub steps_up-requires : goal.steps_up-requires
steps_up-requires t c =
    let before = parent-before c.args.nodes.now c.args.id c.in-Some.parent c.requires.forest (sym c.in-Some.ensures) in
    (omega (arith, before, c.decreases), (c.requires.forest, c.in_ok-above.ensures.ticks))

pub returns-in_err-above-clause-value : goal.returns-in_err-above-clause-value
returns-in_err-above-clause-value t c =
    let other : (c.args.id == c.args.top) ≡ false = grind (arith, nat_tests) in
    let first = up-first c.args.nodes.now c.args.top c.args.id c.args.span other in
    rw first (search rules)

pub returns-in-None-clause-value : goal.returns-in-None-clause-value
returns-in-None-clause-value t c =
    let other : (c.args.id == c.args.top) ≡ false = grind (arith, nat_tests) in
    let root = up-root c.args.nodes.now c.args.top c.args.id c.args.span (sym c.in-None.ensures) other in
    rw root (search rules)

pub returns-in-Some-clause-value : goal.returns-in-Some-clause-value
returns-in-Some-clause-value t c =
    let other : (c.args.id == c.args.top) ≡ false = grind (arith, nat_tests) in
    let up =
    up-up c.args.nodes.now c.args.top c.args.id c.in-Some.parent c.args.span c.requires.forest (sym c.in-Some.ensures)
    other in
    rw up (search rules)
