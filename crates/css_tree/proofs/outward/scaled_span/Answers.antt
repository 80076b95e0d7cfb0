-- Both ends move alike, and the last one further.
use Rattle.std.proofs.Common.{arith}
use Rattle.std.specs.Prelude.{ℤ, pos, ◌<ℤ◌}
use Rattle.std.proofs.lemmas.Int.{ints}
use mir.Syntax.{w64, w128}
use mir.Val.{to_z, of_z}
use Rattle.css_clock.proofs.Near.{scaled-ordered}
use Rattle.css_tree.proofs.outward.scaled_span.Goals as goal

pub invariant_of-result : goal.invariant_of-result
invariant_of-result c =
    let divisor : ℤ = to_z w128 (of_z w128 c.args.divisor) in
    let positive : pos 0 <ℤ divisor = omega (arith, ints) in
    let ordered =
    scaled-ordered (to_z w128 (of_z w128 c.span.inside.lo)) (to_z w128 (of_z w128 c.next.result))
    (to_z w64 (of_z w64 c.args.ticks)) divisor c.scaled.result c.scaled-2.result positive
    (omega (arith, ints, c.next.ensures.value)) c.scaled.ensures.value c.scaled-2.ensures.value in
    omega (arith, ints, ordered)
