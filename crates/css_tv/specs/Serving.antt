-- A television's end of the wall clock.
use Rattle.std.specs.Prelude.{List, ◌∷◌, None}
use Rattle.css_server.specs.Tickets.{Server, Ticket}
use Rattle.css_server.specs.Exchanges.{StandsFor}
use Rattle.css_tv.specs.declared.config.TvConfig.{TvConfig}

-- the server of a configuration, which took no request yet
abbrev pub server_of : TvConfig → Server
server_of config =
    record { precision = config.precision; error = config.error; follow = config.follow; greatest = None }

-- the server took one ticket more
abbrev pub Serves : Server → Server → Ticket → Type 0
Serves old new ticket = (tickets : List Ticket) → StandsFor old tickets → StandsFor new (ticket ∷ tickets)
