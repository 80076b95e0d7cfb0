-- The relay is its companion, which accepts the truth.
use Rattle.std.proofs.Common.{subst}
use Rattle.css_client.specs.Standing.{AcceptsTheTruth}
use Rattle.css_relay.specs.Relays.{Relay}
use Rattle.css_relay.proofs.relay.Relay.land.Goals as goal

pub returns-clause-truth : goal.returns-clause-truth
returns-clause-truth c =
    subst (λ (r : Relay). AcceptsTheTruth r.companion.client c.args.reading c.args.bytes.now c.land.result)
    c.self.view_is c.land.ensures.truth
