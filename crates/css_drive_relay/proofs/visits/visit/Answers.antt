use Rattle.std.proofs.Common.{ap}
use Rattle.css_drive_relay.specs.Places.{Facts}
use Rattle.css_drive_relay.proofs.Staying as staying
use Rattle.css_drive_relay.proofs.Steps as steps
use Rattle.css_drive_relay.proofs.visits.visit.Goals as goal

pub returns-in_default-clause-makes : goal.returns-in_default-clause-makes
returns-in_default-clause-makes g c = staying.unbegun c.args.plan.now _

pub returns-clause-makes : goal.returns-clause-makes
returns-clause-makes g c =
    c.after.ensures.follows _ (c.make_turns-ended.ensures.ends _ _ (steps.begins c.args.plan.now _ c.in-Ok.live
    c.in-Ok.ensures.known c.in-Ok.ensures.facts))

pub returns-clause-tried : goal.returns-clause-tried
returns-clause-tried g c before le tried =
    staying.tries c.args.plan.now before (g.O.Outside.counts c.make_turns-ended.new.outside)
    (g.O.Outside.counts c.after.new.outside) c.make_turns-ended.new.live c.make_turns-ended.result c.after.result
    c.after.ensures.dials c.after.ensures.begun c.after.ensures.ends
    (c.make_turns-ended.ensures.tried before le
    (staying.tries_first c.args.plan.now before (g.O.Outside.counts c.args.outside.now) c.in-Ok.live
    (ap {A = Facts} (λ f. f.turns) c.in-Ok.ensures.facts)
    tried)) c.make_turns-ended.ensures.unreachable
