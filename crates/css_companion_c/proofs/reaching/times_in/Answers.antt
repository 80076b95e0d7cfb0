use Rattle.std.proofs.Common.{arith, to_z, of_z}
use Rattle.std.specs.Prelude.{unsigned_abs}
use Rattle.std.proofs.lemmas.Int.{ints}
use mir.Syntax.{w128}
use Rattle.css_companion_c.proofs.Reached.{quotient_iff}
use Rattle.css_companion_c.proofs.reaching.times_in.Goals as goal

pub returns-clause-meaning : goal.returns-clause-meaning
returns-clause-meaning c = λ times.
    quotient_iff (to_z w128 (of_z w128 c.args.number)) c.args.number c.ceil_div.result
    (to_z w128 (of_z w128 c.ceil_div.result)) times (unsigned_abs (to_z w128 (of_z w128 c.from.result)))
    c.args.divisor c.ceil_div.ensures.value (omega (arith, ints)) (omega (arith, ints, c.from.ensures))
    (omega (arith, ints)) (omega arith)
