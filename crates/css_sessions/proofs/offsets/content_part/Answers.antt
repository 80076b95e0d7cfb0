use Rattle.std.proofs.Common.{◌^◌, arith}
use Rattle.std.proofs.lemmas.Int.{ints}
use Rattle.css_num.proofs.Products.{held, IsProduct, product}
use Rattle.css_sessions.proofs.offsets.content_part.Goals as goal

part : (c : goal.After-from)
    → IsProduct (held c.from.result) (held c.args.units) c.args.content c.args.units (10 ^ 18) (10 ^ 18)
part c =
    product _ _ _ _ _ _ (omega (arith, ints)) (omega (arith, ints)) (omega arith) c.requires.units (omega arith)

pub overflow_mul-result : goal.overflow_mul-result
overflow_mul-result c = (part c).fits

pub returns-clause-value : goal.returns-clause-value
returns-clause-value c = (part c).exact

pub returns-clause-small : goal.returns-clause-small
returns-clause-small c = (part c).size
