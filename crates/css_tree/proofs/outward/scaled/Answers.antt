-- A product of ticks and a divisor is far below 2 ^ 126.
use Rattle.std.proofs.Common.{◌≡◌, ◌∙◌, ap, ◌^◌, ◌≤◌, arith, rules}
use Rattle.std.specs.Prelude.{unsigned_abs, ℤ, ◌*ℤ◌, ◌-ℤ◌, FitsSigned}
use Rattle.std.proofs.lemmas.Int.{ints, fits_signed_mul, to_z-of_z}
use mir.Syntax.{w128}
use mir.Val.{to_z, of_z}
use Rattle.css_clock.proofs.Near.{product-near}
use Rattle.css_tree.proofs.outward.scaled.Goals as goal

fits : (c : goal.After-less)
    → FitsSigned w128 (to_z w128 (of_z w128 c.less.result) *ℤ to_z w128 (of_z w128 c.args.divisor))
fits c =
    let ticks : ℤ = to_z w128 (of_z w128 c.less.result) in
    let divisor : ℤ = to_z w128 (of_z w128 c.args.divisor) in
    let first : unsigned_abs ticks ≤ 2 ^ 64 = omega (arith, ints) in
    let second : unsigned_abs divisor ≤ 1000000000000000000 = omega (arith, ints) in
    fits_signed_mul w128 ticks divisor (2 ^ 64) 1000000000000000000 first second (omega arith)

pub overflow_mul-result : goal.overflow_mul-result
overflow_mul-result c = fits c

pub returns-clause-value : goal.returns-clause-value
returns-clause-value c =
    let since : to_z w128 (of_z w128 c.less.result) ≡ c.args.number -ℤ c.args.ticks = search rules in
    let divisor : to_z w128 (of_z w128 c.args.divisor) ≡ c.args.divisor = search rules in
    to_z-of_z w128 (to_z w128 (of_z w128 c.less.result) *ℤ to_z w128 (of_z w128 c.args.divisor)) (fits c)
    ∙ ap (λ (z : ℤ). z *ℤ to_z w128 (of_z w128 c.args.divisor)) since
    ∙ ap (λ (z : ℤ). (c.args.number -ℤ c.args.ticks) *ℤ z) divisor

pub returns-clause-small : goal.returns-clause-small
returns-clause-small c =
    let ticks : ℤ = to_z w128 (of_z w128 c.less.result) in
    let divisor : ℤ = to_z w128 (of_z w128 c.args.divisor) in
    let first : unsigned_abs ticks ≤ 2 ^ 64 = omega (arith, ints) in
    let second : unsigned_abs divisor ≤ 1000000000000000000 = omega (arith, ints) in
    rw (to_z-of_z w128 (to_z w128 (of_z w128 c.less.result) *ℤ to_z w128 (of_z w128 c.args.divisor)) (fits c))
    (product-near ticks divisor first second)
