use Rattle.std.proofs.Common.{◌-◌, ◌^◌, arith}
use Rattle.std.specs.Prelude.{pos}
use Rattle.std.proofs.lemmas.Int.{ints}
use Rattle.css_num.proofs.Products.{held, IsProduct, product}
use Rattle.css_span.proofs.width.times.Goals as goal

part : (c : goal.After-from)
    → IsProduct (held c.args.a) (held c.from.result) c.args.a (pos c.args.factor) (2 ^ 95 - 1) (2 ^ 29)
part c =
    product _ _ _ _ _ _ (omega (arith, ints)) (omega (arith, ints)) (omega arith) (omega arith) (omega arith)

pub overflow_mul-result : goal.overflow_mul-result
overflow_mul-result c = (part c).fits

pub returns-clause-value : goal.returns-clause-value
returns-clause-value c = (part c).exact

pub returns-clause-bound : goal.returns-clause-bound
returns-clause-bound c = omega (arith, (part c).size)
