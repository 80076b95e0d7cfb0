use Rattle.std.proofs.Common.{◌-◌, ◌≤◌}
use Rattle.css_outside.specs.Limits.{most_turns}
use Rattle.css_drive.specs.CompanionDue.{from_end}
use Rattle.css_drive.specs.CompanionStanding.{Comes, HasTried, IsDue, Names, shown_of}
use Rattle.css_drive.proofs.companion_live.Run.turns.Given as goal

abbrev pub invariant-turns : goal.invariant-turns
invariant-turns g l = record {
  run : Comes l.config (shown_of g.O.Outside.told g.O.Outside.counts l.fn.self)
      (shown_of g.O.Outside.told g.O.Outside.counts l.self)
      (g.W.Observes.saw l.fn.self.observer.now l.self.observer.now) l.self.live.now l.self.companion.now
      (IsDue l.config from_end);
  names : Names l.fn.self l.self;
  floor : l.self.companion.now.client.floor ≤ (g.O.Outside.counts l.self.outside.now).last;
  dials : (g.O.Outside.counts l.fn.self.outside.now).dial_faults ≤ (g.O.Outside.counts l.self.outside.now).dial_faults;
  tried : HasTried l.config (g.O.Outside.counts l.fn.self.outside.now).dial_faults
      (g.O.Outside.counts l.self.outside.now).dial_faults l.self.live.now;
}

abbrev pub decreases-turns : goal.decreases-turns
decreases-turns g l = most_turns l.config.limit - l.self.live.now.made
