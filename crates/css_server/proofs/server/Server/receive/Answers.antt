-- The ticket has the originate value of the request.
use Rattle.std.proofs.Common.{◌∙◌, ap}
use Rattle.css_model.specs.Wire.{stamp_bytes}
use Rattle.css_server.specs.Tickets.{Ticket}
use Rattle.css_server.proofs.Originates.{originate_bytes}
use Rattle.css_server.proofs.server.Server.receive.Goals as goal

pub returns-clause-originate : goal.returns-clause-originate
returns-clause-originate c =
    ap (λ (t : Ticket). stamp_bytes t.originate) c.give_ticket.ensures.ticket
    ∙ originate_bytes c.in_ok-message.message c.args.bytes.now c.in_ok-message.ensures.written_back
