-- A companion that was told nothing yet is bound by either.
use Rattle.std.specs.Prelude.{[]}
use Rattle.css_companion.specs.Standing as companions
use Rattle.css_companion.specs.Standing.{Companion}
use Rattle.css_relay.specs.Relays.{StandsFor}

pub begins : (companion : Companion) → companions.StandsFor companion [] → StandsFor companion []
begins companion s =
    record { client = s.client; state = s.state; texts = s.texts; control = s.control; closed = s.closed }
