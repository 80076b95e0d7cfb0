use Rattle.std.proofs.Common.{[], ◌∷◌, ◌∙◌, ap, sym, refl, ℕ}
use Rattle.css_model.specs.History.{Wrote, Gone, HungUp}
use Rattle.css_outside.specs.declared.calls.Wrote.TheVariants as wrote
use Rattle.css_tv.specs.declared.event.TvEvent.TheVariants as event
use Rattle.css_tv.specs.declared.event.TvOut.TheVariants as out
use Rattle.css_drive.proofs.CompanionSteps.{at_err}
use Rattle.css_drive.proofs.TvSteps.{added, called, failed, moved, happens, waiting}
use Rattle.css_drive.proofs.tv_calls.put_one.Goals as goal

pub returns-in_err-send_text-in-Say : goal.returns-in_err-send_text-in-Say
returns-in_err-send_text-in-Say g c place rest from air s =
    at_err _ _ _ _ c.from_residual.ensures.1 (failed s.history c.in_err-send_text-in-Say.ensures.told)

pub returns-in-Sent : goal.returns-in-Sent
returns-in-Sent g c place rest from air s =
    let peer : ℕ = c.in-Say.peer in
    let text = c.bytes.result.now in
    let x = waiting s (out.Say peer text) (c.in-Say.is ∙ ap (out.Say peer) (sym c.bytes.ensures)) in
    moved x refl (Wrote peer text ∷ []) tt (wrote.Sent, refl)
    (added (rw c.in-Sent.is at c.in_ok-send_text-in-Say.ensures.told))

pub returns-in-Gone : goal.returns-in-Gone
returns-in-Gone g c place rest from air s =
    let peer : ℕ = c.in-Say.peer in
    let text = c.bytes.result.now in
    let x = waiting s (out.Say peer text) (c.in-Say.is ∙ ap (out.Say peer) (sym c.bytes.ensures)) in
    c.close.ensures from _ air place rest (happens (event.Closed peer) tt
    (moved x refl (Gone peer ∷ []) tt (wrote.Gone, refl)
    (added (rw c.in-Gone.is at c.in_ok-send_text-in-Say.ensures.told))))

pub returns-in-HangUp : goal.returns-in-HangUp
returns-in-HangUp g c place rest from air s =
    let peer : ℕ = c.in-HangUp.peer in
    called (waiting s (out.HangUp peer) c.in-HangUp.is) refl (HungUp peer ∷ []) tt refl _ c.hang_up.result
    c.hang_up.ensures.told
