use Rattle.std.proofs.Common.{◌-◌, ◌≤◌}
use Rattle.css_watch.specs.Following.{SoFar, stage}
use Rattle.css_drive.specs.Visits.{most_visits}
use Rattle.css_watch.proofs.visiting.watch.Given as goal

abbrev pub invariant-visits : goal.invariant-visits
invariant-visits g l = record {
  so_far : SoFar l.plan l.begun
      (stage (g.O.Outside.told l.fn.outside) (g.O.Outside.counts l.fn.outside) (g.K.Sink.holds l.fn.sink)
      (g.K.Sink.faults l.fn.sink))
      (stage (g.O.Outside.told l.outside) (g.O.Outside.counts l.outside) (g.K.Sink.holds l.sink)
      (g.K.Sink.faults l.sink)) l.visits;
  dials : (g.O.Outside.counts l.fn.outside).dial_faults ≤ (g.O.Outside.counts l.outside).dial_faults;
  few : l.visits ≤ most_visits;
}

abbrev pub decreases-visits : goal.decreases-visits
decreases-visits g l = most_visits - l.visits
