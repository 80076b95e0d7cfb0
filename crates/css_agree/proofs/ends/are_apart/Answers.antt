-- Ends that are in order before they are rounded are so after it.
use Rattle.std.proofs.Common.{sym}
use Rattle.css_model.specs.WallClock.{lo, hi}
use Rattle.css_agree.proofs.Disagreements.{not_less}
use Rattle.css_agree.proofs.ends.are_apart.Goals as goal

pub returns-then-are_in_order : goal.returns-then-are_in_order
returns-then-are_in_order c =
    let own = c.args.local.now in
    sym (not_less (hi own c.args.high.now c.args.reading) (lo own c.args.low.now c.args.reading)
    (c.are_in_order.ensures c.if-are_in_order.true))
