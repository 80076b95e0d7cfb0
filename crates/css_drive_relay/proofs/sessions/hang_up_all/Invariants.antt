use Rattle.std.proofs.Common.{drop, ◌++◌}
use Rattle.std.specs.Option.{option_to_list}
use Rattle.css_drive.specs.CompanionStanding.{shown}
use Rattle.css_drive_relay.proofs.Staying.{Hanging}
use Rattle.css_drive_relay.proofs.sessions.hang_up_all.Given as goal

abbrev pub invariant-loop-peer : goal.invariant-loop-peer
invariant-loop-peer g l =
    Hanging (shown (g.O.Outside.told l.fn.outside) (g.O.Outside.counts l.fn.outside))
    (shown (g.O.Outside.told l.outside) (g.O.Outside.counts l.outside))
    (l.live.peers.items ++ option_to_list l.live.own.cii_open)
    (drop l.peer-index l.live.peers.items ++ option_to_list l.live.own.cii_open)
