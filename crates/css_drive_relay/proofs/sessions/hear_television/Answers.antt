use Rattle.std.proofs.Common.{refl, true, false, Ok, Err}
use Rattle.css_drive.proofs.CompanionSteps.{at_err}
use Rattle.css_drive.specs.CompanionStanding.{shown}
use Rattle.css_drive.specs.Stages.{At, at_of}
use Rattle.css_drive_relay.proofs.AsCompanion as companion
use Rattle.css_drive_relay.proofs.sessions.hear_television.Goals as goal

pub returns-in_err-told-clause-goes : goal.returns-in_err-told-clause-goes
returns-in_err-told-clause-goes g c plan start h s =
    at_err _ _ _ _ c.from_residual.ensures.1 (companion.goes_hear c.args.live.now s _ _ refl (Err _)
    (rw c.companion.ensures.value at c.in_err-told.ensures.called))

pub returns-in_err-publish-clause-goes : goal.returns-in_err-publish-clause-goes
returns-in_err-publish-clause-goes g c plan start h s =
    let x = companion.goes_hear c.args.live.now s _ _ refl (Ok true)
    (rw c.if-told.true at (rw c.companion.ensures.value at c.in_ok-told.ensures.called)) in
    at_err _ _ _ _ c.from_residual-in_err-publish.ensures.1 (c.in_err-publish.ensures.goes plan start x.0 x.1)

pub returns-then-told-clause-goes : goal.returns-then-told-clause-goes
returns-then-told-clause-goes g c plan start h s =
    let x = companion.goes_hear c.args.live.now s _ _ refl (Ok true)
    (rw c.if-told.true at (rw c.companion.ensures.value at c.in_ok-told.ensures.called)) in
    c.in_ok-publish.ensures.goes plan start x.0 x.1

pub returns-clause-goes : goal.returns-clause-goes
returns-clause-goes g c plan start h s =
    let heard : At = at_of (shown (g.O.Outside.told c.hear.new.outside) (g.O.Outside.counts c.hear.new.outside))
    c.hear.new.own c.hear.new.companion in
    rw (c.cut_if.ensures.live, c.cut_if.ensures.on) (companion.closed_if c.args.live.now s heard
    (companion.goes_hear c.args.live.now s heard _ refl (Ok false)
    (rw c.if-told.false at (rw c.companion.ensures.value at c.in_ok-told.ensures.called))) c.has_closed-closed.result
    c.has_closed-closed.ensures)
