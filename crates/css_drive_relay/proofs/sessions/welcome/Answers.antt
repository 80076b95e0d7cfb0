use Rattle.std.proofs.Common.{refl, sym, ◌∙◌, ap, true, false}
use Rattle.css_model.specs.History.{HungUp}
use Rattle.css_drive_relay.specs.Places.{is_kept}
use Rattle.css_drive_relay.proofs.Steps as steps
use Rattle.css_drive_relay.proofs.sessions.welcome.Goals as goal

pub returns-in-Ok-None-clause-goes : goal.returns-in-Ok-None-clause-goes
returns-in-Ok-None-clause-goes g c plan start h s =
    steps.here (steps.none_came c.args.live.now s c.in-Ok-None.ensures.counted.faults
    (rw c.in-Ok-None.field-0-is at c.in-Ok-None.ensures.told)
    (rw c.in-Ok-None.field-0-is at c.in-Ok-None.ensures.counted.peer))

pub returns-then-is_kept-clause-goes : goal.returns-then-is_kept-clause-goes
returns-then-is_kept-clause-goes g c plan start h s =
    let opens = rw c.in-Ok-Some.field-0-is at c.in-Ok-Some.ensures.counted.peer in
    c.greet.ensures.goes plan start _
    (steps.came c.args.live.now s c.in-Ok-Some.ensures.counted.faults c.in-Ok-Some.peer c.in-Ok-Some.kind
    (rw c.in-Ok-Some.field-0-is at c.in-Ok-Some.ensures.told) opens.0 opens.1 true
    (sym c.if-is_kept.true ∙ c.is_kept.ensures ∙ ap (is_kept _) (c.len.ensures ∙ c.args.live.now.peers.ok.0)))

pub returns-else-is_kept-clause-goes : goal.returns-else-is_kept-clause-goes
returns-else-is_kept-clause-goes g c plan start h s =
    let opens = rw c.in-Ok-Some.field-0-is at c.in-Ok-Some.ensures.counted.peer in
    steps.made (steps.came c.args.live.now s c.in-Ok-Some.ensures.counted.faults c.in-Ok-Some.peer
    c.in-Ok-Some.kind (rw c.in-Ok-Some.field-0-is at c.in-Ok-Some.ensures.told) opens.0 opens.1 false
    (sym c.if-is_kept.false ∙ c.is_kept.ensures ∙ ap (is_kept _) (c.len.ensures ∙ c.args.live.now.peers.ok.0)))
    (HungUp _) refl tt _ _ c.hang_up.result c.hang_up.ensures.told

pub returns-in-Err-clause-goes : goal.returns-in-Err-clause-goes
returns-in-Err-clause-goes g c plan start h s =
    steps.stops_by_fault s.runs (steps.lawful s.knows)
    (c.end_of.ensures.failed _ _ _ refl c.in-Err.ensures.told c.in-Err.ensures.counted.faults
    (ap (λ x. x.dial_faults) c.in-Err.ensures.counted.same))
