use Rattle.std.proofs.Common.{arith}
use Rattle.css_follow.proofs.Passes.{passes_on}
use Rattle.css_follow.proofs.waiting.mark_each.Goals as goal

pub loop-waiting-preserved : goal.loop-waiting-preserved
loop-waiting-preserved c =
    passes_on _ _ _ c.loop-waiting.list c.loop-waiting.waiting-index c.waiting-item.result c.mark.new.waiting
    (omega arith) c.loop-waiting.invariant c.mark.ensures
