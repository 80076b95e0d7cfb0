use Rattle.std.proofs.Common.{sym, ◌∙◌, Some, None}
use Rattle.css_drive_relay.proofs.Steps as steps
use Rattle.css_drive_relay.proofs.sessions.publish.Goals as goal

pub returns-in-None-clause-goes : goal.returns-in-None-clause-goes
returns-in-None-clause-goes g c plan start h s =
    steps.here (steps.publishes c.args.live.now s (c.new-state.ensures ∙ (rw c.in_ok-told.ensures.ok at
    c.relayed.ensures.value)) None (sym c.in-None.is ∙ (rw c.in_ok-change.ensures.ok at c.news.ensures)))

pub returns-in-Some-clause-goes : goal.returns-in-Some-clause-goes
returns-in-Some-clause-goes g c plan start h s =
    c.visit_all.ensures.goes plan start _
    (steps.publishes c.args.live.now s (c.new-state.ensures ∙ (rw c.in_ok-told.ensures.ok at
    c.relayed.ensures.value)) (Some c.in-Some.text)
    (sym c.in-Some.is ∙ (rw c.in_ok-change.ensures.ok at c.news.ensures)))
