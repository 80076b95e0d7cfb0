use Rattle.std.proofs.Common.{◌≡◌, ◌-◌, ◌≤◌}
use Rattle.css_drive.specs.CompanionStanding.{shown}
use Rattle.css_drive.specs.Visits.{most_visits}
use Rattle.css_drive_relay.specs.Staying.{HasTriedBy, HasTurns, SoFar}
use Rattle.css_drive_relay.proofs.visits.make_visits.Given as goal

abbrev pub invariant-visits : goal.invariant-visits
invariant-visits g l = record {
  so_far : SoFar l.plan.run l.plan.begun (shown (g.O.Outside.told l.fn.outside) (g.O.Outside.counts l.fn.outside))
      (shown (g.O.Outside.told l.outside) (g.O.Outside.counts l.outside)) l.visits;
  same : l.plan.run ≡ l.fn.plan.run;
  turns : HasTurns l.plan.begun;
  tried : HasTriedBy (g.O.Outside.counts l.fn.outside) (g.O.Outside.counts l.outside) l.plan.begun;
  dials : (g.O.Outside.counts l.fn.outside).dial_faults ≤ (g.O.Outside.counts l.outside).dial_faults;
  few : l.visits ≤ most_visits;
}

abbrev pub decreases-visits : goal.decreases-visits
decreases-visits g l = most_visits - l.visits
