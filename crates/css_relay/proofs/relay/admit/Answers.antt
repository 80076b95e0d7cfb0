use Rattle.css_relay.proofs.Agreeing as agreeing
use Rattle.css_relay.proofs.relay.admit.Goals as goal

pub returns-in-Ok-add : goal.returns-in-Ok-add
returns-in-Ok-add c own answers h possible =
    agreeing.added c.args.judged.now c.in-Ok.is h c.in-Ok-add.ensures.ok c.contradicts.ensures.value
