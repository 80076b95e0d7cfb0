use Rattle.std.proofs.Common.{arith}
use Rattle.std.proofs.lemmas.Int.{ints}
use Rattle.css_companion_c.proofs.reaching.needed.Goals as goal

pub returns-clause-meaning : goal.returns-clause-meaning
returns-clause-meaning c = λ passed near.
    let bounds = c.bounded.ensures.meaning passed near in
    let times = c.times_in.ensures.meaning passed in (
      λ h. let q = times.0 (omega (arith, ints, bounds.0 (omega (arith, ints, h)))) in omega (arith, ints, q),
      λ h. let q = bounds.1 (omega (arith, ints, times.1 (omega (arith, ints, h)))) in omega (arith, ints, q),
    )
