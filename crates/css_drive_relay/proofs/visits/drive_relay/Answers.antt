use Rattle.std.proofs.Common.{ap, refl, inl, arith}
use Rattle.css_drive.proofs.CompanionEnds.{early_dials}
use Rattle.css_drive.specs.CompanionStanding.{shown}
use Rattle.css_drive_relay.specs.declared.plan.Plan.{Plan}
use Rattle.css_drive_relay.proofs.Staying as staying
use Rattle.css_drive_relay.proofs.visits.drive_relay.Goals as goal

pub returns-in-Ok-clause-ran : goal.returns-in-Ok-clause-ran
returns-in-Ok-clause-ran g c =
    inl (staying.stayed (shown (g.O.Outside.told c.args.outside.now) (g.O.Outside.counts c.args.outside.now))
    (shown (g.O.Outside.told c.listen.new.self) (g.O.Outside.counts c.listen.new.self))
    (shown (g.O.Outside.told c.make_visits.new.outside) (g.O.Outside.counts c.make_visits.new.outside))
    c.in-Ok.ensures.told
    (rw (ap {A = Plan} (λ p. p.run) c.new.ensures) at c.make_visits.ensures.visits))

pub returns-in-Err-clause-counted : goal.returns-in-Err-clause-counted
returns-in-Err-clause-counted g c =
    let so = c.end_of.ensures.failed (shown (g.O.Outside.told c.args.outside.now)
    (g.O.Outside.counts c.args.outside.now))
    (shown (g.O.Outside.told c.listen.new.self) (g.O.Outside.counts c.listen.new.self)) _ refl c.in-Err.ensures.told
    c.in-Err.ensures.counted.faults (ap (λ x. x.dial_faults) c.in-Err.ensures.counted.same) in
    record {
      faults = so.counted;
      dials = early_dials _ _ _ c.end_of.ensures.early (omega (arith, so.dials));
      kind = staying.fault_end _ c.end_of.ensures.fault;
    }
