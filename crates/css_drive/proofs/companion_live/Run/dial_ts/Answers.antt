use Rattle.std.proofs.Common.{refl, ◌∙◌, ap, Ok, Err, Some, None, ℕ, ◌∷◌}
use Rattle.css_model.specs.declared.Kind.TheVariants as kind
use Rattle.css_tsmsg.specs.Setups.{setup_text}
use Rattle.css_drive.specs.declared.companion_live.Live.{Live}
use Rattle.css_drive.specs.Notes.{standpoint}
use Rattle.css_drive.proofs.CompanionSteps.{comes, stands_tried, stops_by_memory, at_err, failed}
use Rattle.css_drive.proofs.CompanionSteps as calls
use Rattle.css_drive.proofs.companion_live.Run.dial_ts.Goals as goal

pub owed-requires-clause-some : goal.owed-requires-clause-some
owed-requires-clause-some g c = (_, refl)

pub returns-clause-goes : goal.returns-clause-goes
returns-clause-goes g c before started h s k d =
    let p : ℕ = c.in-Ok.peer in
    let gives = rw c.in-Some.is at c.in_ok-to.ensures.gives in
    let t = calls.ts_due s d c.in-None.is _ (c.state.ensures.meaning _ h k.stands) _ gives in
    let call = rw c.in-Ok.is at c.in_ok-peer.ensures in
    c.introduce.ensures.goes refl (c.in_ok-setup.ensures.text _ refl ∙ ap setup_text k.setup) before started _
    (stands_tried s kind.Ts c.in-Some.to t (Ok p) call.told (call.saw (standpoint _ (_ ∷ h)) started _ s.saw_so)
    (ap {A = Live} (λ x. record x { ts = Some p; ts_open = Some p }) s.facts))
    (c.in_ok-setup.ensures.known _ _ _ (calls.knows_dialling kind.Ts c.in-Some.to k) (p, refl)) (refl, refl)

pub returns-in_err-setup-clause-goes : goal.returns-in_err-setup-clause-goes
returns-in_err-setup-clause-goes g c before started h s k d =
    let p : ℕ = c.in-Ok.peer in
    let gives = rw c.in-Some.is at c.in_ok-to.ensures.gives in
    let t = calls.ts_due s d c.in-None.is _ (c.state.ensures.meaning _ h k.stands) _ gives in
    let call = rw c.in-Ok.is at c.in_ok-peer.ensures in
    at_err _ _ _ _ c.from_residual-in_err-setup.ensures.1
    (stops_by_memory (stands_tried s kind.Ts c.in-Some.to t (Ok p) call.told
    (call.saw (standpoint _ (_ ∷ h)) started _ s.saw_so)
    (ap {A = Live} (λ x. record x { ts = Some p; ts_open = Some p }) s.facts))
    (calls.lawful_plain _ _ (calls.lawful_plain _ _ k.stands.client.lawful refl refl) refl refl) _ _
    c.in_err-setup.ensures.err)

pub returns-in_default-3-clause-goes : goal.returns-in_default-3-clause-goes
returns-in_default-3-clause-goes g c before started h s k d =
    let gives = rw c.in-Some.is at c.in_ok-to.ensures.gives in
    let t = calls.ts_due s d c.in-None.is _ (c.state.ensures.meaning _ h k.stands) _ gives in
    let call = rw c.in_default-3.is at c.in_ok-peer.ensures in
    comes (stands_tried s kind.Ts c.in-Some.to t (Err _) call.told (call.saw (standpoint _ (_ ∷ h)) started _ s.saw_so)
    s.facts) (calls.knows_tried kind.Ts c.in-Some.to (Err _) tt k) _ refl

pub returns-in_err-to-clause-goes : goal.returns-in_err-to-clause-goes
returns-in_err-to-clause-goes g c before started h s k d =
    at_err _ _ _ c.from_residual.result c.from_residual.ensures.1
    (calls.bad_stops s k.stands.client.lawful _ _ _ _ _ c.in_err-to.ensures.gives
    (calls.ts_due s d c.in-None.is _ (c.state.ensures.meaning _ h k.stands) _ refl))

pub returns-in_err-peer-clause-goes : goal.returns-in_err-peer-clause-goes
returns-in_err-peer-clause-goes g c before started h s k d =
    failed s _ _ k c.from_residual-in_err-peer.ensures.1 c.in_err-peer.ensures.told _
    (c.in_err-peer.ensures.saw (standpoint c.args.config.now h) started _ s.saw_so)
