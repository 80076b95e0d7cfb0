use Rattle.std.proofs.Common.{arith, rules}
use Rattle.std.specs.Prelude.{◌≤ℤ◌}
use Rattle.std.proofs.lemmas.Int.{ints, to_z-of_z}
use mir.Syntax.{w64, w128}
use mir.Val.{to_z, of_z, SFits}
use Rattle.css_companion_c.proofs.Leading.{lead_ordered}
use Rattle.css_companion_c.proofs.lead.lead_at.Goals as goal

pub invariant_of-result : goal.invariant_of-result
invariant_of-result c =
    let tick = to_z w64 (of_z w64 c.args.tick) in
    let ends = lead_ordered c.args.timing.now tick c.args.span.now c.least.ensures.units in
    let order : c.least.result ≤ℤ c.most.result = omega (arith, ints, ends, c.least.ensures.value, c.most.ensures) in
    let low : SFits w128 c.least.result = search rules in
    let high : SFits w128 c.most.result = search rules in
    omega (arith, ints, order, to_z-of_z w128 c.least.result low, to_z-of_z w128 c.most.result high)
