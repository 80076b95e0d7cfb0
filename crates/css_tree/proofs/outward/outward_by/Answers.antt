-- The first end is rounded down and the last one up.
use Rattle.std.proofs.Common.{ℕ, ◌<◌, arith}
use Rattle.std.specs.Prelude.{ℤ, ◌≤ℤ◌, unsigned_abs}
use Rattle.std.proofs.lemmas.Int.{ints}
use mir.Syntax.{w64, w128}
use mir.Val.{to_z, of_z}
use Rattle.css_clock.proofs.Near.{outward-ordered}
use Rattle.css_tree.proofs.outward.outward_by.Goals as goal

pub invariant_of-result : goal.invariant_of-result
invariant_of-result c =
    let low : ℤ = to_z w128 (of_z w128 c.span.inside.lo) in
    let high : ℤ = to_z w128 (of_z w128 c.span.inside.hi) in
    let magnitude : ℕ = unsigned_abs (to_z w128 (of_z w128 c.args.magnitude)) in
    let positive : 0 < magnitude = omega (arith, ints) in
    let order : low ≤ℤ high = omega (arith, ints) in
    let ordered =
    outward-ordered low high c.rounded_down.result c.rounded_up.result magnitude (to_z w64 (of_z w64 c.args.ticks))
    positive order c.rounded_down.ensures c.rounded_up.ensures in
    omega (arith, ints, ordered)
