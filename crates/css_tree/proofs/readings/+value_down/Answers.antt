-- The parent comes before, and what it reads is what the clocks above give.
use Rattle.std.proofs.Common.{sym, arith, rules}
use Rattle.css_tree.proofs.Forests.{parent-before}
use Rattle.css_tree.proofs.Stepwise.{checked_down-up}
use Rattle.css_tree.proofs.readings.+value_down.Goals as goal

pub value_down-requires : goal.value_down-requires
value_down-requires t c =
    let before = parent-before c.args.nodes.now c.args.id c.in-Some.parent c.requires (sym c.in-Some.ensures) in
    (omega (arith, before, c.decreases), c.requires)

pub returns-in_err-above-in-Some : goal.returns-in_err-above-in-Some
returns-in_err-above-in-Some t c =
    let up =
    checked_down-up c.args.nodes.now c.args.id c.in-Some.parent c.args.root c.requires (sym c.in-Some.ensures) in
    rw up (search rules)

pub returns-in_ok-above-in-Some : goal.returns-in_ok-above-in-Some
returns-in_ok-above-in-Some t c =
    let up =
    checked_down-up c.args.nodes.now c.args.id c.in-Some.parent c.args.root c.requires (sym c.in-Some.ensures) in
    rw up (search rules)
