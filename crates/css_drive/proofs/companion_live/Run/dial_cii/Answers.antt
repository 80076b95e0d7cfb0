use Rattle.std.proofs.Common.{refl, ap, Ok, Err, ◌∙◌, Some, None, ℕ, ◌∷◌}
use Rattle.css_model.specs.declared.Kind.TheVariants as kind
use Rattle.css_drive.specs.declared.companion_live.Live.{Live}
use Rattle.css_drive.specs.Notes.{standpoint}
use Rattle.css_drive.specs.Proper.{Dial}
use Rattle.css_drive.proofs.CompanionSteps.{comes, stands_tried, failed}
use Rattle.css_drive.proofs.CompanionSteps as calls
use Rattle.css_drive.proofs.companion_live.Run.dial_cii.Goals as goal

pub returns-clause-goes : goal.returns-clause-goes
returns-clause-goes g c config is before started h s k d =
    let p : ℕ = c.in-Ok.peer in
    let call = rw c.in-Ok.is at c.in_ok-peer.ensures in
    comes (stands_tried s kind.Cii c.args.to.now (calls.cii_due s d c.in-None.is ∙ ap (Dial kind.Cii) is) (Ok p)
    call.told
    (call.saw (standpoint _ (_ ∷ h)) started _ s.saw_so)
    (ap {A = Live} (λ x. record x { cii = Some p; cii_open = Some p }) s.facts))
    (calls.knows_tried kind.Cii c.args.to.now (Ok p) refl k) _ refl

pub returns-in_default-2-clause-goes : goal.returns-in_default-2-clause-goes
returns-in_default-2-clause-goes g c config is before started h s k d =
    let call = rw c.in_default-2.is at c.in_ok-peer.ensures in
    comes (stands_tried s kind.Cii c.args.to.now (calls.cii_due s d c.in-None.is ∙ ap (Dial kind.Cii) is) (Err _) call.told
    (call.saw (standpoint _ (_ ∷ h)) started _ s.saw_so) s.facts)
    (calls.knows_tried kind.Cii c.args.to.now (Err _) tt k) _ refl

pub returns-in_err-peer-clause-goes : goal.returns-in_err-peer-clause-goes
returns-in_err-peer-clause-goes g c config is before started h s k d =
    failed s _ _ k c.from_residual.ensures.1 c.in_err-peer.ensures.told _
    (c.in_err-peer.ensures.saw (standpoint config h) started _ s.saw_so)
