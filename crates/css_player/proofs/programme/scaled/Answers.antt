use Rattle.std.proofs.Common.{arith}
use Rattle.std.specs.Prelude.{pos}
use Rattle.std.proofs.lemmas.Int.{ints}
use Rattle.css_num.proofs.Products.{held, IsProduct, product}
use Rattle.css_player.specs.Player.{media_limit}
use Rattle.css_player.proofs.programme.scaled.Goals as goal

part : (c : goal.After-from)
    → IsProduct (held c.args.media) (held c.from.result) c.args.media (pos c.args.units) media_limit 1000000000
part c =
    product _ _ _ _ _ _ (omega (arith, ints)) (omega (arith, ints)) c.requires.media c.requires.units (omega arith)

pub overflow_mul-result : goal.overflow_mul-result
overflow_mul-result c = (part c).fits

pub returns-clause-value : goal.returns-clause-value
returns-clause-value c = (part c).exact

pub returns-clause-small : goal.returns-clause-small
returns-clause-small c = (part c).size
