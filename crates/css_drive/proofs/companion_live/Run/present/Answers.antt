use Rattle.std.proofs.Common.{◌≡◌, refl, sym, ◌∙◌, ap, ℕ}
use Rattle.std.specs.Option.{option_map}
use Rattle.css_outside.specs.declared.calls.Wrote.{Wrote as Outcome}
use Rattle.css_outside.specs.declared.calls.Wrote.TheVariants as outcome
use Rattle.css_model.specs.History.{History}
use Rattle.css_drive.specs.CompanionDue.{due_at, sending, window_text, from_ask, SetUp}
use Rattle.css_drive.specs.CompanionStanding.{spoken}
use Rattle.css_drive.specs.Proper.{SendText}
use Rattle.css_drive.specs.declared.config.DriveConfig.{DriveConfig}
use Rattle.css_drive.proofs.CompanionSteps.{comes, stops_by_memory, at_err}
use Rattle.css_drive.proofs.companion_live.Run.present.Goals as goal

-- after the presentation nothing more is said
after : (config : DriveConfig) (p : ℕ) (h : History) (sent : Outcome)
    → due_at config (spoken sent (SetUp p)) h ≡ from_ask config h
after config p h outcome.Sent = refl
after config p h outcome.Gone = refl

pub owed-requires-clause-some : goal.owed-requires-clause-some
owed-requires-clause-some g c = (_, refl)

pub returns-clause-goes : goal.returns-clause-goes
returns-clause-goes g c at before started h s k when =
    let cfg = c.args.config.now in
    let p : ℕ = c.args.peer in
    let x = c.in_ok-say.ensures.goes at cfg (SetUp p) before started h s
    (rw c.in_ok-text.ensures.same k) (
      when,
      ap (λ o. sending p (option_map window_text o) (from_ask cfg h)) c.in-Some.is
          ∙ ap (λ b. SendText p b) (sym (c.bytes.ensures ∙ c.in_ok-text.ensures.text _ refl)),
    ) in
    comes x.stands x.known _ (x.next.1 ∙ after cfg p x.history _)

pub returns-in_err-say-clause-goes : goal.returns-in_err-say-clause-goes
returns-in_err-say-clause-goes g c at before started h s k when =
    let cfg = c.args.config.now in
    let p : ℕ = c.args.peer in
    at_err _ _ _ _ c.from_residual-in_err-say.ensures.1 (c.in_err-say.ensures.goes at cfg (SetUp p) before started h s
    (rw c.in_ok-text.ensures.same k) (
      when,
      ap (λ o. sending p (option_map window_text o) (from_ask cfg h)) c.in-Some.is
          ∙ ap (λ b. SendText p b) (sym (c.bytes.ensures ∙ c.in_ok-text.ensures.text _ refl)),
    ))

pub returns-in_err-text-clause-goes : goal.returns-in_err-text-clause-goes
returns-in_err-text-clause-goes g c at before started h s k when =
    at_err _ _ _ c.from_residual.result c.from_residual.ensures.1
    (stops_by_memory s k.stands.client.lawful _ _ c.in_err-text.ensures.err)
