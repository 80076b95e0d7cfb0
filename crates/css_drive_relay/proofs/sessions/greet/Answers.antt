use Rattle.std.proofs.Common.{refl, ◌∙◌, ap, ℕ, List, ◌∷◌, []}
use Rattle.css_model.specs.History.{Wrote, Gone}
use Rattle.css_outside.specs.declared.calls.Wrote.TheVariants as outcome
use Rattle.css_companion.specs.Meanings.{is_ts}
use Rattle.css_drive_relay.specs.Places.{Facts, lost, welcomed}
use Rattle.css_drive_relay.proofs.Steps as steps
use Rattle.css_drive_relay.specs.Standing.{facts_in}
use Rattle.css_drive_relay.proofs.sessions.greet.Goals as goal
use Rattle.css_drive_relay.proofs.sessions.greet.Goals.{in-Sent, in-Gone}

pub returns-clause-goes : goal.returns-clause-goes
returns-clause-goes g c plan start h s =
    let pushed = ap {A = List ℕ} {B = Facts} (λ xs. record (facts_in c.args.live.now) { peers = xs })
    (rw c.in_ok-or_memory.ensures.ok at c.push.ensures.items) in
    let text = c.bytes.ensures ∙ (rw c.in_ok-text.ensures.ok at c.full_text.ensures) in
    elim c.match-branch-4.branch [
      | in-Sent w ↦ rw w.live-is (steps.here (steps.stands_with welcomed pushed (steps.stands_on s (Wrote _ _)
          (outcome.Sent, ap (λ x. Wrote c.args.peer x ∷ []) text) tt
          (rw w.in-Sent.is at c.in_ok-send_text.ensures.told))))
      | in-Gone w ↦ rw (w.live-is, w.forget.ensures.relay) (steps.here (steps.stands_with welcomed
          (w.forget.ensures.facts ∙ ap (lost c.args.peer) pushed)
          (steps.stands_on s (Gone _) (outcome.Gone, refl) (ap is_ts (steps.its_none s.runs refl))
          (rw w.in-Gone.is at c.in_ok-send_text.ensures.told))))
    ]
