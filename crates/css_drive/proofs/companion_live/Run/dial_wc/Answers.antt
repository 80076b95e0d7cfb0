use Rattle.std.proofs.Common.{refl, ap, Ok, Err, Some, None, ℕ, ◌∷◌}
use Rattle.css_model.specs.declared.Kind.TheVariants as kind
use Rattle.css_drive.specs.declared.companion_live.Live.{Live}
use Rattle.css_drive.specs.Notes.{standpoint}
use Rattle.css_drive.proofs.CompanionSteps.{comes, stands_tried, at_err, failed}
use Rattle.css_drive.proofs.CompanionSteps as calls
use Rattle.css_drive.proofs.companion_live.Run.dial_wc.Goals as goal

pub returns-in_err-to-clause-called : goal.returns-in_err-to-clause-called
returns-in_err-to-clause-called g c =
    rw c.in-None.is (calls.told_err _ _ _ _ _ _ _ _ (ap (λ x. calls.wc_place x) c.state.ensures.value) refl _
    c.from_residual.ensures.1 c.in_err-to.ensures.gives)

pub returns-clause-goes : goal.returns-clause-goes
returns-clause-goes g c config before started h s k d =
    let p : ℕ = c.in-Ok.peer in
    let gives = rw c.in-Some.is at c.in_ok-to.ensures.gives in
    let t = calls.wc_due s d c.in-None.is _ (c.state.ensures.meaning _ h k.stands) _ gives in
    let call = rw c.in-Ok.is at c.in_ok-peer.ensures in
    comes (stands_tried s kind.Wc c.in-Some.to t (Ok p) call.told
    (call.saw (standpoint _ (_ ∷ h)) started _ s.saw_so) (ap {A = Live} (λ x. record x { wc = Some p }) s.facts))
    (calls.knows_tried kind.Wc c.in-Some.to (Ok p) refl k) _ refl

pub returns-in_default-3-clause-goes : goal.returns-in_default-3-clause-goes
returns-in_default-3-clause-goes g c config before started h s k d =
    let gives = rw c.in-Some.is at c.in_ok-to.ensures.gives in
    let t = calls.wc_due s d c.in-None.is _ (c.state.ensures.meaning _ h k.stands) _ gives in
    let call = rw c.in_default-3.is at c.in_ok-peer.ensures in
    comes (stands_tried s kind.Wc c.in-Some.to t (Err _) call.told (call.saw (standpoint _ (_ ∷ h)) started _ s.saw_so)
    s.facts) (calls.knows_tried kind.Wc c.in-Some.to (Err _) tt k) _ refl

pub returns-in_err-to-clause-goes : goal.returns-in_err-to-clause-goes
returns-in_err-to-clause-goes g c config before started h s k d =
    at_err _ _ _ c.from_residual.result c.from_residual.ensures.1
    (calls.bad_stops s k.stands.client.lawful _ _ _ _ _ c.in_err-to.ensures.gives
    (calls.wc_due s d c.in-None.is _ (c.state.ensures.meaning _ h k.stands) _ refl))

pub returns-in_err-peer-clause-goes : goal.returns-in_err-peer-clause-goes
returns-in_err-peer-clause-goes g c config before started h s k d =
    failed s _ _ k c.from_residual-in_err-peer.ensures.1 c.in_err-peer.ensures.told _
    (c.in_err-peer.ensures.saw (standpoint config h) started _ s.saw_so)
