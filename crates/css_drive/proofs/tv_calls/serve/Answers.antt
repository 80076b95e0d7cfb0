use Rattle.std.proofs.Common.{arith, ap, [], ◌∷◌, refl, ℕ, List, take, Some, None}
use Rattle.std.proofs.lemmas.Grind.{common_steps}
use Rattle.css_model.specs.History.{Took, TookNone}
use Rattle.css_outside.specs.Outsides.{Counts}
use Rattle.css_drive.proofs.CompanionSteps.{plain_adds}
use Rattle.css_drive.proofs.TvSteps.{added, failed, moved}
use Rattle.css_drive.proofs.tv_calls.serve.Goals as goal

pub returns-in-Ok-None : goal.returns-in-Ok-None
returns-in-Ok-None g c from air s =
    let call = c.in-Ok-None.ensures in
    moved s.is_at s.next (TookNone ∷ []) tt ([], None, refl)
    (added (plain_adds (rw c.in-Ok-None.field-0-is at call.told) call.counted.same call.counted.faults))

pub returns-in-Ok-Some : goal.returns-in-Ok-Some
returns-in-Ok-Some g c from air s =
    let call = c.in-Ok-Some.ensures in
    let peer : ℕ = c.in-Ok-Some.peer in
    let count : ℕ = c.in-Ok-Some.count in
    let bytes : List ℕ = c.take_datagram.new.into in
    c.receive.ensures (take count bytes) (grind (arith, common_steps)) from air
    (moved s.is_at s.next (Took peer (take count bytes) ∷ []) tt (bytes, Some (peer, count), refl)
    (added (plain_adds (rw c.in-Ok-Some.field-0-is at call.told) call.counted.same call.counted.faults)))

pub returns-in-Err : goal.returns-in-Err
returns-in-Err g c from air s =
    failed s.is_at.history (c.end_of.ensures.failed _ _ _ refl c.in-Err.ensures.told c.in-Err.ensures.counted.faults
    (ap (λ (x : Counts). x.dial_faults) c.in-Err.ensures.counted.same))
