use Rattle.std.proofs.Common.{◌≡◌, sym, ap, ap₂, ◌∙◌, subst, arith}
use Rattle.std.specs.Prelude.{◌*ℤ◌}
use Rattle.std.proofs.lemmas.Int.{to_z-of_z, fits_signed_from_abs}
use mir.Syntax.{w128}
use mir.Val.{SFits}
use Rattle.css_num.proofs.Products.{held}
use Rattle.css_num.proofs.span.times.Goals as goal

same : (c : goal.Start) → held c.args.number *ℤ held c.args.num ≡ c.args.number *ℤ c.args.num
same c = ap₂ ◌*ℤ◌ (to_z-of_z w128 c.args.number c.ranges.number) (to_z-of_z w128 c.args.num c.ranges.num)

fits : (c : goal.Start) → SFits w128 (c.args.number *ℤ c.args.num)
fits c = fits_signed_from_abs w128 (c.args.number *ℤ c.args.num) (omega arith)

pub overflow_mul-result : goal.overflow_mul-result
overflow_mul-result c = subst (SFits w128) (sym (same c)) (fits c)

pub returns : goal.returns
returns c = ap held (same c) ∙ to_z-of_z w128 (c.args.number *ℤ c.args.num) (fits c)
