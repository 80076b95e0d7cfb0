use Rattle.std.proofs.Common.{refl, ap}
use Rattle.css_model.specs.History.{Quiet, Heard, Closed, Wrote, Gone, HungUp}
use Rattle.css_outside.specs.declared.calls.Heard.TheVariants as session
use Rattle.css_outside.specs.declared.calls.Wrote.TheVariants as outcome
use Rattle.css_companion.specs.Meanings.{is_ts}
use Rattle.css_drive_relay.specs.Places.{Asked, Dropping, telling}
use Rattle.css_drive_relay.proofs.Steps as steps
use Rattle.css_drive_relay.proofs.sessions.visit_one.Goals as goal

pub returns-in-Sent-clause-goes : goal.returns-in-Sent-clause-goes
returns-in-Sent-clause-goes g c plan left start h s =
    rw c.in-Tell.is (steps.here (steps.stands_on (rw c.in-Tell.is at s) (Wrote _ _) (outcome.Sent, refl) tt
    (rw (c.in-Sent.is, c.bytes.ensures) at c.in_ok-send_text-in-Tell.ensures.told)))

pub returns-in-Tell-clause-goes : goal.returns-in-Tell-clause-goes
returns-in-Tell-clause-goes g c plan left start h s =
    let s1 = rw c.in-Tell.is at s in
    rw (c.in-Tell.is, c.forget.ensures.relay) (steps.here (steps.stands_with (telling c.in-Tell.text left)
    c.forget.ensures.facts (steps.stands_on s1 (Gone _)
    (outcome.Gone, refl) (ap is_ts (steps.its_none s1.runs refl))
    (rw c.in-Gone.is at c.in_ok-send_text-in-Tell.ensures.told))))

pub returns-in-Ok-Quiet-clause-goes : goal.returns-in-Ok-Quiet-clause-goes
returns-in-Ok-Quiet-clause-goes g c plan left start h s =
    rw c.in-Hear.is (steps.here (steps.stands_on (rw c.in-Hear.is at s) (Quiet _) (session.Quiet, refl) tt
    (rw c.in-Ok-Quiet.field-0-is at c.in-Ok-Quiet.ensures.told)))

pub returns-in-Ok-Closed-clause-goes : goal.returns-in-Ok-Closed-clause-goes
returns-in-Ok-Closed-clause-goes g c plan left start h s =
    let s1 = rw c.in-Hear.is at s in
    rw (c.in-Hear.is, c.forget-in-Ok-Closed.ensures.relay) (steps.here (steps.stands_with (λ f. Asked left)
    c.forget-in-Ok-Closed.ensures.facts
    (steps.stands_on s1 (Closed _) (session.Closed, refl) (ap is_ts (steps.its_none s1.runs refl))
    (rw c.in-Ok-Closed.field-0-is at c.in-Ok-Closed.ensures.told))))

pub returns-clause-goes : goal.returns-clause-goes
returns-clause-goes g c plan left start h s =
    let s1 = rw c.in-Hear.is at s in
    let x = steps.stands_with (λ f. Dropping c.args.peer left) c.forget-in-Ok-Text.ensures.facts
    (steps.stands_on s1 (Heard _ c.in-Ok-Text.field-0-0) (session.Text _, refl) (steps.its_none s1.runs refl)
    (rw c.in-Ok-Text.field-0-is at c.in-Ok-Text.ensures.told)) in
    rw (c.in-Hear.is, c.forget-in-Ok-Text.ensures.relay)
    (steps.made x (HungUp _) refl tt _ _ c.hang_up.result c.hang_up.ensures.told)
