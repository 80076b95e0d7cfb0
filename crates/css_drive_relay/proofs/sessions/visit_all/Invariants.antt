use Rattle.std.proofs.Common.{Ok}
use Rattle.std.specs.Prelude.{drop}
use Rattle.css_model.specs.History.{History}
use Rattle.css_drive.specs.CompanionStanding.{Shown, shown}
use Rattle.css_drive_relay.specs.Standing.{facts_in, placed, visiting, Stands, IsAt, Keeps}
use Rattle.css_drive_relay.specs.declared.plan.Plan.{Plan}
use Rattle.css_drive_relay.proofs.sessions.visit_all.Given as goal

abbrev pub invariant-loop-peer : goal.invariant-loop-peer
invariant-loop-peer g l = record {
  goes : (plan : Plan) (start : Shown) (history : History)
      → Stands plan start (shown (g.O.Outside.told l.fn.outside) (g.O.Outside.counts l.fn.outside)) l.fn.live.relay
      (placed (visiting l.what l.fn.live.peers.items) (facts_in l.fn.live)) history
      → IsAt (visiting l.what (drop l.peer-index l.peer-items)) plan start
      (shown (g.O.Outside.told l.outside) (g.O.Outside.counts l.outside)) l.live;
  keeps : Keeps (g.O.Outside.counts l.fn.outside) (g.O.Outside.counts l.outside) l.fn.live l.live (Ok (tt {0}));
}
