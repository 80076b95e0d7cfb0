use Rattle.std.proofs.Common.{◌∙◌, ◌∷◌, [], sym, refl, Some, None}
use Rattle.css_model.specs.History.{Sent}
use Rattle.css_drive.proofs.CompanionSteps.{at_err}
use Rattle.css_drive.proofs.TvSteps.{added, answer_read, called, failed, moved}
use Rattle.css_drive.proofs.tv_calls.answer.Goals as goal

pub returns-in-None : goal.returns-in-None
returns-in-None g c from air s =
    let answered = c.answer-answered.ensures in
    moved (answer_read s _ c.in_ok-reading.ensures.told _ answered.response None
    (sym c.in-None.is ∙ answered.follow_up)) refl (Sent c.args.peer c.answer-answered.result.response ∷ []) tt refl
    (added c.in_ok-send_datagram.ensures.told)

pub returns-in_err-send_datagram : goal.returns-in_err-send_datagram
returns-in_err-send_datagram g c from air s =
    let answered = c.answer-answered.ensures in
    at_err _ _ _ _ c.from_residual-in_err-send_datagram.ensures.1
    (failed (answer_read s _ c.in_ok-reading.ensures.told _ answered.response _ answered.follow_up).history
    c.in_err-send_datagram.ensures.told)

pub returns-in-Some : goal.returns-in-Some
returns-in-Some g c from air s =
    let answered = c.answer-answered.ensures in
    called (moved (answer_read s _ c.in_ok-reading.ensures.told _ answered.response (Some c.in-Some.bytes)
    (sym c.in-Some.is ∙ answered.follow_up)) refl (Sent c.args.peer c.answer-answered.result.response ∷ []) tt refl
    (added c.in_ok-send_datagram.ensures.told)) refl (Sent c.args.peer c.in-Some.bytes ∷ []) tt refl _
    c.send_datagram-in-Some.result c.send_datagram-in-Some.ensures.told
