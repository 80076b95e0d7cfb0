-- The quotient is small.
use Rattle.std.proofs.Common.{◌^◌, ◌≤◌, rules}
use Rattle.std.specs.Prelude.{unsigned_abs}
use Rattle.css_clock.proofs.Near.{answer-near_up}
use Rattle.css_tree.proofs.outward.rounded_up.Goals as goal

pub more-requires : goal.more-requires
more-requires c =
    let near : unsigned_abs c.ceil_div.result ≤ 2 ^ 126 =
    answer-near_up c.args.number c.args.magnitude c.ceil_div.result c.requires.positive c.requires.small
    (search rules) in
    search (rules, near)
