use Rattle.std.proofs.Common.{◌^◌, arith}
use Rattle.std.proofs.lemmas.Int.{ints}
use Rattle.css_num.proofs.Products.{held, IsProduct, product}
use Rattle.css_companion_c.proofs.lead.at_speed.Goals as goal

part : (c : goal.After-from)
    → IsProduct (held c.args.passed) (held c.from.result) c.args.passed c.args.speed (2 ^ 69) (2 ^ 31)
part c =
    product _ _ _ _ _ _ (omega (arith, ints)) (omega (arith, ints)) (omega arith) (omega (arith, ints)) (omega arith)

pub overflow_mul-result : goal.overflow_mul-result
overflow_mul-result c = (part c).fits

pub returns-clause-value : goal.returns-clause-value
returns-clause-value c = (part c).exact

pub returns-clause-small : goal.returns-clause-small
returns-clause-small c = omega (arith, (part c).size)
