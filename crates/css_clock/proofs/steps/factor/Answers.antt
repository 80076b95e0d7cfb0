-- A product of two parts and a speed is far below 2 ^ 127.
use Rattle.std.proofs.Common.{arith, ◌^◌, ◌≤◌}
use Rattle.std.specs.Prelude.{unsigned_abs, ℤ}
use Rattle.std.proofs.lemmas.Int.{ints, fits_signed_mul}
use mir.Syntax.{w128}
use mir.Val.{to_z, of_z}
use Rattle.css_clock.proofs.steps.factor.Goals as goal

pub overflow_mul-result : goal.overflow_mul-result
overflow_mul-result c =
    let own : ℤ = to_z w128 (of_z w128 c.from.result) in
    let speed : ℤ = to_z w128 (of_z w128 c.from-2.result) in
    let first : unsigned_abs own ≤ 2 ^ 64 = omega (arith, ints) in
    let second : unsigned_abs speed ≤ 2 ^ 31 = omega (arith, ints) in
    fits_signed_mul w128 own speed (2 ^ 64) (2 ^ 31) first second (omega arith)
