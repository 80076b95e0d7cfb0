use Rattle.std.proofs.Common.{refl, sym, ◌∙◌, ap, [], ◌∷◌, None}
use Rattle.css_drive.proofs.CompanionSteps.{at_err, plain_adds}
use Rattle.css_model.specs.History.{TookNone}
use Rattle.css_drive_relay.proofs.Steps as steps
use Rattle.css_drive_relay.proofs.stages.serve.Goals as goal

pub returns-in-Ok-None-clause-goes : goal.returns-in-Ok-None-clause-goes
returns-in-Ok-None-clause-goes g c plan start h at s d =
    steps.here (steps.stands_on s TookNone (steps.may_as d (TookNone ∷ []) ([], None, refl)) tt
    (plain_adds (rw c.in-Ok-None.field-0-is at c.in-Ok-None.ensures.told)
    c.in-Ok-None.ensures.counted.same c.in-Ok-None.ensures.counted.faults))

pub returns-in-Err-clause-goes : goal.returns-in-Err-clause-goes
returns-in-Err-clause-goes g c plan start h at s d =
    steps.stops_by_fault s.runs (steps.lawful s.knows)
    (c.end_of.ensures.failed _ _ _ refl c.in-Err.ensures.told c.in-Err.ensures.counted.faults
    (ap (λ x. x.dial_faults) c.in-Err.ensures.counted.same))

pub returns-in_err-respond-in-Ok-Some-clause-goes : goal.returns-in_err-respond-in-Ok-Some-clause-goes
returns-in_err-respond-in-Ok-Some-clause-goes g c plan start h at s d =
    let s1 = steps.taken s d c.take_datagram.new.into c.in-Ok-Some.peer c.in-Ok-Some.count
    (plain_adds (rw c.in-Ok-Some.field-0-is at c.in-Ok-Some.ensures.told) c.in-Ok-Some.ensures.counted.same
    c.in-Ok-Some.ensures.counted.faults) in
    at_err _ _ _ _ c.from_residual.ensures.1 (c.in_err-respond-in-Ok-Some.ensures.goes plan
    (sym c.is_request.ensures ∙ c.if-is_request.true) start _ s1)

pub returns-then-is_request-clause-goes : goal.returns-then-is_request-clause-goes
returns-then-is_request-clause-goes g c plan start h at s d =
    let s1 = steps.taken s d c.take_datagram.new.into c.in-Ok-Some.peer c.in-Ok-Some.count
    (plain_adds (rw c.in-Ok-Some.field-0-is at c.in-Ok-Some.ensures.told) c.in-Ok-Some.ensures.counted.same
    c.in-Ok-Some.ensures.counted.faults) in
    c.in_ok-respond-in-Ok-Some.ensures.goes plan (sym c.is_request.ensures ∙ c.if-is_request.true) start _ s1

pub returns-else-is_request-clause-goes : goal.returns-else-is_request-clause-goes
returns-else-is_request-clause-goes g c plan start h at s d =
    let s1 = steps.taken s d c.take_datagram.new.into c.in-Ok-Some.peer c.in-Ok-Some.count
    (plain_adds (rw c.in-Ok-Some.field-0-is at c.in-Ok-Some.ensures.told) c.in-Ok-Some.ensures.counted.same
    c.in-Ok-Some.ensures.counted.faults) in
    c.land.ensures.goes plan c.in-Ok-Some.peer (sym c.is_request.ensures ∙ c.if-is_request.false) start h s1 s.knows
