-- The lower end is near, since the divisor is large.
use Rattle.std.proofs.Common.{◌≤◌, ◌<◌, ◌^◌, arith, rules}
use Rattle.std.specs.Prelude.{unsigned_abs}
use Rattle.std.proofs.lemmas.Int.{ints}
use Rattle.css_span.proofs.Nearness.{near-floor_div}
use Rattle.css_span.proofs.width.lowest.Goals as goal

pub returns-clause-near : goal.returns-clause-near
returns-clause-near c =
    let large : 134217728 ≤ unsigned_abs c.from.result = omega (arith, ints, c.from.ensures, c.local.invariant.error) in
    let small : unsigned_abs c.lower_end.result < 2 ^ 95 = omega (arith, ints, c.lower_end.ensures.bound) in
    search (
      rules,
      c.floor_div.ensures.value,
      near-floor_div c.lower_end.result (unsigned_abs c.from.result) large small,
    )
