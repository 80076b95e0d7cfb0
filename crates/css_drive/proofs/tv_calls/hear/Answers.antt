use Rattle.std.proofs.Common.{refl, [], ◌∷◌, Some, ℕ, List}
use Rattle.css_model.specs.History.{Quiet, Heard, Closed}
use Rattle.css_outside.specs.declared.calls.Heard.TheVariants as heard
use Rattle.css_tv.specs.declared.event.TvEvent.TheVariants as event
use Rattle.css_drive.specs.TvProgress.{Asked}
use Rattle.css_drive.proofs.CompanionSteps.{at_err}
use Rattle.css_drive.proofs.TvSteps.{added, failed, moved, happens}
use Rattle.css_drive.proofs.tv_calls.hear.Goals as goal

pub returns-in-Quiet : goal.returns-in-Quiet
returns-in-Quiet g c from air s =
    moved s.is_at s.next (Quiet c.args.peer ∷ []) tt (heard.Quiet, refl)
    (added (rw c.in-Quiet.is at c.in_ok-take_text.ensures.told))

pub returns-in-Text : goal.returns-in-Text
returns-in-Text g c from air s =
    let peer : ℕ = c.args.peer in
    let text : List ℕ = c.in-Text.text in
    c.play.ensures (Asked (Some peer)) from air (happens (event.Heard peer text) tt
    (moved s.is_at s.next (Heard peer text ∷ []) tt (heard.Text text, refl)
    (added (rw c.in-Text.is at c.in_ok-take_text.ensures.told))))

pub returns-in-Closed : goal.returns-in-Closed
returns-in-Closed g c from air s =
    let peer : ℕ = c.args.peer in
    c.play-in-Closed.ensures (Asked (Some peer)) from air (happens (event.Closed peer) tt
    (moved s.is_at s.next (Closed peer ∷ []) tt (heard.Closed, refl)
    (added (rw c.in-Closed.is at c.in_ok-take_text.ensures.told))))

pub returns-in_err-take_text : goal.returns-in_err-take_text
returns-in_err-take_text g c from air s =
    at_err _ _ _ _ c.from_residual.ensures.1 (failed s.is_at.history c.in_err-take_text.ensures.told)
