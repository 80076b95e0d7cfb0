use Rattle.std.proofs.Common.{refl, sym, ap, ◌∙◌, ℕ, List, inl, inr}
use Rattle.css_model.specs.History.{Quiet, Closed}
use Rattle.css_outside.specs.declared.calls.Heard.TheVariants as heard
use Rattle.css_drive.specs.CompanionStanding.{without}
use Rattle.css_drive.specs.Notes.{standpoint}
use Rattle.css_drive.proofs.CompanionSteps.{comes, failed, fails_over, at_err}
use Rattle.css_drive.proofs.CompanionSteps as calls
use Rattle.css_drive.proofs.companion_live.Run.hear.Goals as goal

pub returns-in-Quiet-clause-goes : goal.returns-in-Quiet-clause-goes
returns-in-Quiet-clause-goes g c same config before started h s k d =
    let p : ℕ = c.in-Some.peer in
    let at = sym c.peer_of.ensures ∙ c.in-Some.is in
    let call = rw c.in-Quiet.is at c.in_ok-take_text.ensures.told in
    comes (calls.session_said s c.args.session d at heard.Quiet call s.saw_so s.facts)
    (calls.knows_plain (Quiet p) k refl refl refl refl refl refl refl) _
    (calls.asked c.args.session config (Quiet p) p h (calls.open_kind s c.args.session at) refl)

pub returns-in_err-take_text-clause-goes : goal.returns-in_err-take_text-clause-goes
returns-in_err-take_text-clause-goes g c same config before started h s k d =
    failed s _ _ k c.from_residual-in_err-take_text.ensures.1
    (fails_over c.in_ok-check.ensures.on c.in_err-take_text.ensures.told) _ s.saw_so

pub returns-in-Text-clause-goes : goal.returns-in-Text-clause-goes
returns-in-Text-clause-goes g c same config before started h s k d =
    let which = c.args.session in
    let p : ℕ = c.in-Some.peer in
    let text : List ℕ = c.in-Text.text in
    let at = sym c.peer_of.ensures ∙ c.in-Some.is in
    let is = calls.open_kind s which at in
    let call = rw c.in-Text.is at c.in_ok-take_text.ensures.told in
    calls.text_goes (calls.session_said s which d at (heard.Text text) call
    (c.heard.ensures (standpoint config h) k started _ c.in_ok-check.ensures.on s.saw_so) s.facts)
    k.stands.client.lawful which is _ _ c.take_in.result
    (rw same at (c.take_in.ensures.told config.companion p h is (rw same k)))

pub returns-in_ok-let_go-in-Closed-clause-goes : goal.returns-in_ok-let_go-in-Closed-clause-goes
returns-in_ok-let_go-in-Closed-clause-goes g c same config before started h s k d =
    let which = c.args.session in
    let p : ℕ = c.in-Some.peer in
    let at = sym c.peer_of.ensures ∙ c.in-Some.is in
    let is = calls.open_kind s which at in
    let call = rw c.in-Closed.is at c.in_ok-take_text.ensures.told in
    comes (calls.session_said s which d at heard.Closed call
    (c.closed.ensures (standpoint config h) started _ c.in_ok-check.ensures.on s.saw_so)
    (ap (without p) s.facts ∙ sym c.close.ensures))
    (rw same at (c.in_ok-let_go-in-Closed.ensures.told config.companion p h is (rw same k))) _
    (calls.asked which config (Closed p) p h is refl)

pub returns-in_err-let_go-in-Closed-clause-goes : goal.returns-in_err-let_go-in-Closed-clause-goes
returns-in_err-let_go-in-Closed-clause-goes g c same config before started h s k d =
    let which = c.args.session in
    let p : ℕ = c.in-Some.peer in
    let at = sym c.peer_of.ensures ∙ c.in-Some.is in
    let call = rw c.in-Closed.is at c.in_ok-take_text.ensures.told in
    at_err _ _ _ _ c.from_residual-in_err-let_go-in-Closed.ensures.1
    (calls.stops_by_memory (calls.session_said s which d at heard.Closed call
    (c.closed.ensures (standpoint config h) started _ c.in_ok-check.ensures.on s.saw_so)
    (ap (without p) s.facts ∙ sym c.close.ensures))
    (calls.lawful_plain (Closed p) h k.stands.client.lawful refl refl) _ _ c.in_err-let_go-in-Closed.ensures.err)

pub returns-in_err-check-clause-goes : goal.returns-in_err-check-clause-goes
returns-in_err-check-clause-goes g c same config before started h s k d =
    failed s _ _ k c.from_residual.ensures.1 (c.in_err-check.ensures.unmade _) _ s.saw_so

-- ---- what was called
pub returns-in_err-check-clause-called : goal.returns-in_err-check-clause-called
returns-in_err-check-clause-called g c =
    rw (sym c.peer_of.ensures ∙ c.in-Some.is)
    (at_err _ _ _ _ c.from_residual.ensures.1 (inl (c.in_err-check.ensures.unmade _)))

pub returns-in-Text-clause-called : goal.returns-in-Text-clause-called
returns-in-Text-clause-called g c =
    rw (sym c.peer_of.ensures ∙ c.in-Some.is) (calls.text_heard _ _ _ (rw c.in-Text.is at c.in_ok-take_text.ensures.told) refl
    c.take_in.result c.take_in.ensures.came (λ own h is k. c.take_in.ensures.told own c.in-Some.peer h is k))

pub returns-in_ok-let_go-in-Closed-clause-called : goal.returns-in_ok-let_go-in-Closed-clause-called
returns-in_ok-let_go-in-Closed-clause-called g c =
    rw (sym c.peer_of.ensures ∙ c.in-Some.is) (
      heard.Closed,
      record {
        called = rw c.in-Closed.is at c.in_ok-take_text.ensures.told;
        live = c.close.ensures;
        known = λ own h is k. (refl, c.in_ok-let_go-in-Closed.ensures.told own c.in-Some.peer h is k);
      },
      refl,
    )

pub returns-in_err-let_go-in-Closed-clause-called : goal.returns-in_err-let_go-in-Closed-clause-called
returns-in_err-let_go-in-Closed-clause-called g c =
    rw (sym c.peer_of.ensures ∙ c.in-Some.is) (at_err _ _ _ _ c.from_residual-in_err-let_go-in-Closed.ensures.1
    (inr (
      heard.Closed,
      rw c.in-Closed.is at c.in_ok-take_text.ensures.told,
      c.close.ensures,
      λ own h is k. rw c.in_err-let_go-in-Closed.ensures.err tt,
    )))
