use Rattle.std.proofs.Common.{◌≡◌, false, Ok}
use Rattle.css_drive.specs.TvProgress.{goes_on}
use Rattle.css_drive.specs.TvStanding.{From, Leads, Comes, at_end, still, hanging_up, with_tv}
use Rattle.css_drive.specs.declared.turns.OnAir.{OnAir}
use Rattle.css_drive.proofs.TvSteps.{room_after}
use Rattle.css_drive.proofs.tv_calls.hang_up_all.Given as goal

abbrev pub invariant-peers : goal.invariant-peers
invariant-peers g l = (from : From) (air : OnAir) → goes_on air.turns ≡ false
    → Leads g.O.Outside.told g.O.Outside.counts from (Comes at_end) (Comes (still hanging_up l.last)) l.fn.outside
    (with_tv air l.tv) l.outside (with_tv air l.tv) (Ok l.last)

abbrev pub decreases-peers : goal.decreases-peers
decreases-peers g l = room_after l.last
