use Rattle.std.proofs.Common.{drop, Ok}
use Rattle.css_drive.specs.TvProgress.{Place}
use Rattle.css_drive.specs.TvStanding.{Plays, Settles}
use Rattle.css_drive.proofs.tv_calls.put_all.Given as goal

abbrev pub invariant-loop-out : goal.invariant-loop-out
invariant-loop-out g l = (place : Place)
    → Plays g.O.Outside.told g.O.Outside.counts (Settles place l.outs) (Settles place (drop l.out-index l.outs))
    l.fn.outside l.fn.tv l.outside l.tv (Ok l.out-index)
