-- What a server remembers, which requests it takes, and what it answers. In each list of tickets the newest stands
-- first.
use Rattle.std.specs.Prelude.{ℕ, ℤ, ◌≤◌, ◌<◌, ◌*◌, ◌^◌, ◌≤ℤ◌, pos, List, Bool, true, ◌&&◌, ◌==◌, nat_lt, max}
use Rattle.std.specs.Prelude.{if◌then◌else◌}
use Rattle.std.specs.Prelude.{Option, Some, None, Result, Ok, Err}
use Rattle.css_model.specs.declared.Stamp.{Stamp}
use Rattle.css_model.specs.declared.Message.{Message}
use Rattle.css_model.specs.declared.WcFault.{WcFault}
use Rattle.css_model.specs.Numbers.{max_error}
use Rattle.css_model.specs.Wire.{second, decoded, stamp_of}
use Rattle.css_server.specs.declared.fault.ServeFault.{ServeFault}
use Rattle.css_server.specs.declared.fault.ServeFault.TheVariants as faults

-- What a server declares of its clock, the exponent of the precision and the greatest error; whether it promises
-- follow-ups; and the greatest reading of its tickets so far.
pub record Server : Type 0 where
  pub precision : ℤ
  pub error : ℕ
  pub follow : Bool
  pub greatest : Option ℕ

-- what a datagram can declare
pub record IsServer (server : Server) : Type 0 where
  pub precision : server.precision ≤ℤ pos 30
  pub error : server.error ≤ max_error

-- A request that was taken: its originate value, when it was received, and whether its response promises a follow-up.
pub record Ticket : Type 0 where
  pub originate : Stamp
  pub reading : ℕ
  pub follow_up : Bool

-- a reading that the seconds of a datagram can tell
pub record IsTicket (ticket : Ticket) : Type 0 where
  pub reading : ticket.reading < 2 ^ 32 * second

-- ---- taken
-- whether a reading is greater than the greatest so far
abbrev pub is_greater : ℕ → Option ℕ → Bool
is_greater reading None = true
is_greater reading (Some greatest) = nat_lt greatest reading

-- the greatest reading, with one more
abbrev pub greatest_with : ℕ → Option ℕ → ℕ
greatest_with reading None = reading
greatest_with reading (Some greatest) = max greatest reading

-- the ticket of a request with this originate value that a server takes at a reading
abbrev pub ticket_for : Server → ℕ → Stamp → Ticket
ticket_for server reading originate = record {
  originate = originate;
  reading = reading;
  follow_up = server.follow && is_greater reading server.greatest;
}

-- the ticket of what was decoded, or the first fault
abbrev pub ticket_or_fault : Server → ℕ → Result Message WcFault → Result Ticket ServeFault
ticket_or_fault server reading (Err fault) = Err (faults.Undecodable fault)
ticket_or_fault server reading (Ok message) =
    if message.message_type == 0 then Ok (ticket_for server reading message.originate) else Err faults.NotARequest

-- the ticket of the request that bytes are, or the first fault
abbrev pub received : Server → List ℕ → ℕ → Result Ticket ServeFault
received server bytes reading = ticket_or_fault server reading (decoded bytes)

-- the server after it gave out a ticket at a reading
abbrev pub after_ticket : Server → ℕ → Server
after_ticket server reading = record {
  precision = server.precision;
  error = server.error;
  follow = server.follow;
  greatest = Some (greatest_with reading server.greatest);
}

-- ---- answered
-- a message of a server's about a ticket, of this type and with this transmit value
abbrev pub answer_message : Server → Ticket → ℕ → ℕ → Message
answer_message server ticket message_type transmit = record {
  message_type = message_type;
  precision = server.precision;
  error = server.error;
  originate = ticket.originate;
  receive = stamp_of ticket.reading;
  transmit = stamp_of transmit;
}

-- The response to a ticket's request, where the clock reads so now. Where it promises a follow-up it has the receive
-- value in place of the transmit value, which the follow-up tells.
abbrev pub response_to : Server → Ticket → ℕ → Message
response_to server ticket reading =
    if ticket.follow_up then answer_message server ticket 2 ticket.reading else answer_message server ticket 1 reading

-- the follow-up to that response
abbrev pub follow_up_to : Server → Ticket → ℕ → Message
follow_up_to server ticket reading = answer_message server ticket 3 reading

-- the follow-up, where one is promised
abbrev pub follow_up_for : Server → Ticket → ℕ → Option Message
follow_up_for server ticket reading = if ticket.follow_up then Some (follow_up_to server ticket reading) else None
