-- What a relay ends as that lent its companion.
use Rattle.std.specs.Borrow.{Lends, MutBor, Fml}
use Rattle.css_companion.specs.Standing.{Companion}
use Rattle.css_companion.specs.contracts.companion.Companion.{the_row as companion_row}
use Rattle.css_relay.specs.Relays.{Relay}
use Rattle.css_relay.specs.contracts.relay.Relay.{the_row}

-- the relay with the companion as it was left
abbrev pub with_companion : Relay → Companion → Relay
with_companion relay companion = record relay { companion = companion }

abbrev pub LendsCompanion : MutBor Relay → MutBor Companion → Fml
LendsCompanion relay lent = Lends the_row companion_row relay lent (with_companion relay.now)
