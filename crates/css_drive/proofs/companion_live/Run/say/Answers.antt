use Rattle.std.proofs.Common.{refl, sym, ◌∙◌, ap, inr, ℕ, ◌∷◌}
use Rattle.css_model.specs.History.{Wrote, Gone}
use Rattle.css_outside.specs.declared.calls.Wrote.TheVariants as outcome
use Rattle.css_drive.specs.CompanionDue.{due_at, text_sent, text_gone}
use Rattle.css_drive.specs.CompanionStanding.{without}
use Rattle.css_drive.specs.Notes.{standpoint}
use Rattle.css_drive.specs.declared.session.Session.TheVariants as session
use Rattle.css_drive.proofs.CompanionSteps.{comes, failed, fails_over, at_err, stops_by_memory}
use Rattle.css_drive.proofs.CompanionSteps as calls
use Rattle.css_drive.proofs.companion_live.Run.say.Goals as goal

pub returns-in-Sent-clause-goes : goal.returns-in-Sent-clause-goes
returns-in-Sent-clause-goes g c at cfg point before started h s k when =
    let p : ℕ = c.args.peer in
    let text = c.args.text.now in
    let call = rw c.in-Sent.is at c.in_ok-send_text.ensures.told in
    comes (calls.ts_sent s at (when.0.1 ∙ when.1) outcome.Sent call s.saw_so s.facts)
    (calls.knows_plain (Wrote p text) k refl refl refl refl refl refl refl) _
    (ap text_sent when.0.0, ap (λ x. due_at cfg (text_sent x) (Wrote p text ∷ h)) when.0.0)

pub returns-in_ok-tell-in-Gone-clause-goes : goal.returns-in_ok-tell-in-Gone-clause-goes
returns-in_ok-tell-in-Gone-clause-goes g c at cfg point before started h s k when =
    let p : ℕ = c.args.peer in
    let call = rw c.in-Gone.is at c.in_ok-send_text.ensures.told in
    comes (calls.ts_sent s at (when.0.1 ∙ when.1) outcome.Gone call
    (c.closed.ensures (standpoint cfg h) started _ c.in_ok-check.ensures.on s.saw_so)
    (ap (without p) s.facts ∙ sym c.close.ensures))
    (c.in_ok-tell-in-Gone.ensures.ok cfg.companion h (Gone p) k (p, inr refl, calls.open_kind s session.Ts at)) _
    (ap text_gone when.0.0, ap (λ x. due_at cfg (text_gone x) (Gone p ∷ h)) when.0.0)

pub returns-in_err-tell-in-Gone-clause-goes : goal.returns-in_err-tell-in-Gone-clause-goes
returns-in_err-tell-in-Gone-clause-goes g c at cfg point before started h s k when =
    let p : ℕ = c.args.peer in
    let call = rw c.in-Gone.is at c.in_ok-send_text.ensures.told in
    at_err _ _ _ _ c.from_residual-in_err-tell-in-Gone.ensures.1
    (stops_by_memory (calls.ts_sent s at (when.0.1 ∙ when.1) outcome.Gone call
    (c.closed.ensures (standpoint cfg h) started _ c.in_ok-check.ensures.on s.saw_so)
    (ap (without p) s.facts ∙ sym c.close.ensures))
    (calls.lawful_plain (Gone p) h k.stands.client.lawful refl refl) _ _ c.in_err-tell-in-Gone.ensures.err)

pub returns-in_err-send_text-clause-goes : goal.returns-in_err-send_text-clause-goes
returns-in_err-send_text-clause-goes g c at cfg point before started h s k when =
    failed s _ _ k c.from_residual-in_err-send_text.ensures.1
    (fails_over c.in_ok-check.ensures.on c.in_err-send_text.ensures.told) _ s.saw_so

pub returns-in_err-check-clause-goes : goal.returns-in_err-check-clause-goes
returns-in_err-check-clause-goes g c at cfg point before started h s k when =
    failed s _ _ k c.from_residual.ensures.1 (c.in_err-check.ensures.unmade _) _ s.saw_so
