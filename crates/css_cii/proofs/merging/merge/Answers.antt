-- At the end the state is the merged one, which is a session's last.
use Rattle.std.proofs.Common.{◌∙◌, sym, subst}
use Rattle.css_cii.specs.States.{empty}
use Rattle.css_cii.specs.Texts.{IsUtf8State}
use Rattle.css_cii.proofs.Sessions.{merged_from-session, merge_end}
use Rattle.css_cii.proofs.Utf8.{empty-utf8, merged-utf8}
use Rattle.css_cii.proofs.merging.merge.Goals as goal

pub returns-clause-session : goal.returns-clause-session
returns-clause-session c = λ told session. merge_end _ empty c.args.changes.now c.loop-change.change-index
    c.loop-change-test.false c.loop-change.invariant ∙ merged_from-session empty told c.args.changes.now session

pub returns-clause-utf8 : goal.returns-clause-utf8
returns-clause-utf8 c = λ utf8.
    subst IsUtf8State (sym (merge_end _ empty c.args.changes.now c.loop-change.change-index c.loop-change-test.false
    c.loop-change.invariant))
    (merged-utf8 empty c.args.changes.now empty-utf8 utf8)
