-- The steps of the code are those of the definition.
use Rattle.std.proofs.Common.{rules}
use Rattle.css_tree.proofs.Stepwise.{outward-steps}
use Rattle.css_tree.proofs.outward.outward.Goals as goal

pub returns : goal.returns
returns c =
    outward-steps c.args.gear c.args.span c.scaled_span-scaled.result c.turned-turned.result c.outward_by.result
    c.divisor-divisor.result c.magnitude-magnitude.result
    (search rules) (search rules) (search rules) (search rules) (search rules)
