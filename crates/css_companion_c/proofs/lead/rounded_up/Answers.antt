use Rattle.std.proofs.Common.{◌<◌, ◌^◌, arith, rules}
use Rattle.std.specs.Prelude.{unsigned_abs}
use Rattle.std.proofs.lemmas.Int.{ints}
use Rattle.css_companion_c.proofs.Leading.{ceil_div-near}
use Rattle.css_companion_c.proofs.lead.rounded_up.Goals as goal

pub returns-clause-small : goal.returns-clause-small
returns-clause-small c =
    let positive : 0 < unsigned_abs c.from.result =
    omega (arith, ints, c.from.ensures, c.rate.invariant.second_positive) in
    search (
      rules,
      c.ceil_div.ensures.value,
      ceil_div-near c.args.distance (2 ^ 124) (unsigned_abs c.from.result) positive c.requires,
    )
