-- The quotient is small.
use Rattle.std.proofs.Common.{◌^◌, ◌≤◌, rules}
use Rattle.std.specs.Prelude.{unsigned_abs}
use Rattle.css_clock.proofs.Near.{answer-near}
use Rattle.css_tree.proofs.outward.rounded_down.Goals as goal

pub more-requires : goal.more-requires
more-requires c =
    let near : unsigned_abs c.floor_div.result ≤ 2 ^ 126 =
    answer-near c.args.number c.args.magnitude c.floor_div.result c.requires.positive c.requires.small
    (search rules) in
    search (rules, near)
