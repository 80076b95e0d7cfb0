use Rattle.std.proofs.Common.{arith, rules, ◌≤ℤ◌}
use Rattle.std.proofs.lemmas.Int.{ints}
use Rattle.css_num.proofs.Images.{IsImage-answer}
use Rattle.css_num.proofs.span.image.Goals as goal

pub invariant_of-result : goal.invariant_of-result
invariant_of-result c = omega (arith, ints, c.min.ensures.self_bound, c.max.ensures.self_bound)

pub returns-clause-meaning : goal.returns-clause-meaning
returns-clause-meaning c =
    let ordered : c.args.span.lo ≤ℤ c.args.span.hi = search rules in
    IsImage-answer c.args.span _ c.args.num c.args.den c.requires.positive ordered (search rules)
