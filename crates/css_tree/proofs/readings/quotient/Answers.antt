-- The quotient of a small product is small.
use Rattle.std.proofs.Common.{◌^◌, ◌<◌, ◌≤◌, arith, rules}
use Rattle.std.specs.Prelude.{unsigned_abs}
use Rattle.std.proofs.lemmas.Bool.Decides.{nat_tests}
use Rattle.css_clock.proofs.Near.{answer-near}
use Rattle.css_tree.proofs.readings.quotient.Goals as goal

pub returns-clause-near : goal.returns-clause-near
returns-clause-near c =
    let small : unsigned_abs c.args.product < 2 ^ 126 = grind (arith, nat_tests) in
    let near : unsigned_abs c.floor_div.result ≤ 2 ^ 126 =
    answer-near c.args.product c.args.divisor c.floor_div.result c.requires.positive small (search rules) in
    search (rules, near)
