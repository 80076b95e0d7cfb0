use Rattle.std.proofs.Common.{refl, Some, None, ℕ, List, ◌∷◌, [], ap, take}
use Rattle.css_model.specs.History.{Took, TookNone}
use Rattle.css_drive.specs.Proper.{TakeDatagram}
use Rattle.css_drive.proofs.CompanionSteps.{comes, stands_adds, stops_by_fault, failed}
use Rattle.css_drive.proofs.CompanionSteps as calls
use Rattle.css_drive.proofs.companion_live.Run.take.Goals as goal

pub returns-in-Ok-None-clause-goes : goal.returns-in-Ok-None-clause-goes
returns-in-Ok-None-clause-goes g c config before started h s k d =
    let call = c.in-Ok-None.ensures in
    comes (stands_adds s TakeDatagram (calls.take_due s d c.in-Some.is) (TookNone ∷ []) ([], None, refl) s.peers
    (calls.plain_adds (rw c.in-Ok-None.field-0-is at call.told) call.counted.same call.counted.faults) s.saw_so
    s.facts)
    (calls.knows_plain TookNone k refl refl refl refl refl refl refl) _ refl

pub returns-in-Ok-Some-clause-goes : goal.returns-in-Ok-Some-clause-goes
returns-in-Ok-Some-clause-goes g c config before started h s k d =
    let call = c.in-Ok-Some.ensures in
    let q : ℕ = c.in-Ok-Some.field-0-0-0 in
    let n : ℕ = c.in-Ok-Some.count in
    let bytes : List ℕ = take n c.take_datagram.new.into in
    c.land.ensures.goes config before started h q
    (stands_adds s TakeDatagram (calls.take_due s d c.in-Some.is) (Took q bytes ∷ [])
    (c.take_datagram.new.into, Some (q, n), refl) s.peers
    (calls.plain_adds (rw c.in-Ok-Some.field-0-is at call.told) call.counted.same call.counted.faults) s.saw_so
    s.facts) k

pub returns-in-Err-clause-goes : goal.returns-in-Err-clause-goes
returns-in-Err-clause-goes g c config before started h s k d =
    stops_by_fault s k.stands.client.lawful (c.end_of.ensures.failed _ _ _ c.in_ok-check.ensures.on
    c.in-Err.ensures.told c.in-Err.ensures.counted.faults (ap (λ x. x.dial_faults) c.in-Err.ensures.counted.same))
    s.saw_so

pub returns-in_err-check-clause-goes : goal.returns-in_err-check-clause-goes
returns-in_err-check-clause-goes g c config before started h s k d =
    failed s _ _ k c.from_residual.ensures.1 (c.in_err-check.ensures.unmade _) _ s.saw_so
