use Rattle.css_drive_relay.proofs.AsCompanion as companion
use Rattle.css_drive_relay.proofs.stages.read.Goals as goal

pub returns-clause-told : goal.returns-clause-told
returns-clause-told g c =
    companion.reads c.args.live.now _ _ _ _ _ _ (rw c.companion.ensures.value at c.read.ensures.called)
