-- The originate value is that of the request's bytes.
use Rattle.css_server.proofs.Originates.{originate_bytes}
use Rattle.css_relay.proofs.relay.requested.Goals as goal

pub returns-clause-originate : goal.returns-clause-originate
returns-clause-originate c =
    originate_bytes c.in_ok-message.message c.args.bytes.now c.in_ok-message.ensures.written_back
