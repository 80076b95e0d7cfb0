-- A product of positive parts and a speed that isn't 0 is above 0.
use Rattle.std.proofs.Common.{◌≡◌, ◌*◌, ◌^◌, ◌<◌, ◌≤◌, arith, rules, mul-pos}
use Rattle.std.specs.Prelude.{ℤ, pos, ◌<ℤ◌, ◌*ℤ◌, unsigned_abs, FitsSigned}
use Rattle.std.proofs.lemmas.Int.{ints, fits_signed_mul, to_z-of_z}
use mir.Syntax.{w32, w128}
use mir.Val.{to_z, of_z}
use Rattle.css_clock.proofs.Near.{moving-positive, product-positive}
use Rattle.css_tree.proofs.outward.magnitude.Goals as goal

pub returns-clause-positive : goal.returns-clause-positive
returns-clause-positive c =
    let units : ℤ = to_z w128 (of_z w128 c.from.result) in
    let speed : ℤ = to_z w128 (of_z w128 c.from-2.result) in
    let parts : 0 < c.rate.inside.units_per_second * c.parent.inside.units_per_tick =
    mul-pos (omega arith) (omega arith) in
    let first : unsigned_abs units ≤ 2 ^ 64 = omega (arith, ints) in
    let second : unsigned_abs speed ≤ 2 ^ 31 = omega (arith, ints) in
    let fits : FitsSigned w128 (units *ℤ speed) =
    fits_signed_mul w128 units speed (2 ^ 64) (2 ^ 31) first second (omega arith) in
    let units_positive : pos 0 <ℤ units = omega (arith, ints, parts) in
    let same : to_z w32 (of_z w32 c.args.speed) ≡ c.args.speed = search rules in
    let moving : 0 < unsigned_abs (to_z w32 (of_z w32 c.args.speed)) =
    rw same (moving-positive c.args.speed c.requires) in
    let speed_positive : pos 0 <ℤ speed = omega (arith, ints, moving) in
    rw (to_z-of_z w128 (units *ℤ speed) fits) (product-positive units speed units_positive speed_positive)
