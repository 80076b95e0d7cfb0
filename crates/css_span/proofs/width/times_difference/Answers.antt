use Rattle.std.proofs.Common.{◌-◌, ◌^◌, arith}
use Rattle.std.specs.Prelude.{pos, ◌-ℤ◌}
use Rattle.std.proofs.lemmas.Int.{ints}
use Rattle.css_num.proofs.Products.{held, IsProduct, product}
use Rattle.css_span.proofs.width.times_difference.Goals as goal

part : (c : goal.After-difference)
    → IsProduct (held c.from.result) (held c.difference.result) (pos c.args.factor) (pos c.args.a -ℤ pos c.args.b)
    (2 ^ 29 - 1) (2 ^ 64)
part c =
    product _ _ _ _ _ _ (omega (arith, ints)) (omega (arith, ints)) (omega arith) (omega (arith, ints)) (omega arith)

pub overflow_mul-result : goal.overflow_mul-result
overflow_mul-result c = (part c).fits

pub returns-clause-value : goal.returns-clause-value
returns-clause-value c = (part c).exact

pub returns-clause-bound : goal.returns-clause-bound
returns-clause-bound c = omega (arith, (part c).size)
