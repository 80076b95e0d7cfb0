use Rattle.std.proofs.Common.{None, Ok}
use Rattle.css_drive.specs.TvDue.{from_texts}
use Rattle.css_drive.specs.TvProgress.{Asked}
use Rattle.css_drive.specs.TvStanding.{Plays, IsAt, Comes, still}
use Rattle.css_drive.proofs.TvSteps.{room_after}
use Rattle.css_drive.proofs.tv_calls.hear_all.Given as goal

abbrev pub invariant-peers : goal.invariant-peers
invariant-peers g l =
    Plays g.O.Outside.told g.O.Outside.counts (IsAt (Asked None)) (Comes (still from_texts l.last)) l.fn.outside l.fn.tv
    l.outside l.tv (Ok l.last)

abbrev pub decreases-peers : goal.decreases-peers
decreases-peers g l = room_after l.last
