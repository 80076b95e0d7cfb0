-- Which requests a relay takes, and what it answers.
use Rattle.std.specs.Prelude.{ℕ, ◌≡◌, ◌*◌, ◌^◌, ◌<◌, pos, List, ◌==◌, nat_lt, max}
use Rattle.std.specs.Prelude.{if◌then◌else◌, Option, Result, Ok, Err}
use Rattle.css_num.specs.Spans.{Interval}
use Rattle.css_model.specs.declared.Stamp.{Stamp}
use Rattle.css_model.specs.declared.Message.{Message}
use Rattle.css_model.specs.declared.WcFault.{WcFault}
use Rattle.css_model.specs.Numbers.{precision_ns}
use Rattle.css_model.specs.WallClock.{Local}
use Rattle.css_model.specs.Wire.{second, encoded, decoded, stamp_of}
use Rattle.css_model.specs.History.{History, accepted_answers}
use Rattle.css_span.specs.Frontiers.{greatest_error}
use Rattle.css_span.specs.WallSpans.{wall_span}
use Rattle.css_relay.specs.Middles.{middle_known}
use Rattle.css_relay.specs.Precisions.{exponent_for}
use Rattle.css_relay.specs.declared.fault.RelayFault.{RelayFault}
use Rattle.css_relay.specs.declared.fault.RelayFault.TheVariants as faults
use Rattle.css_relay.specs.declared.middle.Middle.{Middle}

-- A request that was taken: its originate value, the wall clock's reading when it was received, and how far the wall
-- clock can have been from it.
pub record Ticket : Type 0 where
  pub originate : Stamp
  pub value : ℕ
  pub half : ℕ

-- a reading that the seconds of a datagram can tell
pub record IsTicket (ticket : Ticket) : Type 0 where
  pub value : ticket.value < 2 ^ 32 * second

-- ---- taken
-- the originate value of a request, or the first fault of what was decoded
abbrev pub requested_by : Result Message WcFault → Result Stamp RelayFault
requested_by (Err fault) = Err (faults.Undecodable fault)
requested_by (Ok message) = if message.message_type == 0 then Ok message.originate else Err faults.NotARequest

-- the ticket of a request that is received at a middle
abbrev pub ticket_at : Stamp → Result Middle RelayFault → Result Ticket RelayFault
ticket_at originate (Err fault) = Err fault
ticket_at originate (Ok middle) = Ok (record { originate = originate; value = middle.value; half = middle.half })

-- the ticket of a request, where this is known of the wall clock
abbrev pub ticket_by : Option Interval → Result Stamp RelayFault → Result Ticket RelayFault
ticket_by wall (Err fault) = Err fault
ticket_by wall (Ok originate) = ticket_at originate (middle_known wall)

-- the ticket of the request that bytes are, or the first fault
abbrev pub received : Option Interval → List ℕ → Result Ticket RelayFault
received wall bytes = ticket_by wall (requested_by (decoded bytes))

-- ---- answered
-- The response to a ticket's request at a middle. It declares one precision for both of its readings.
abbrev pub response_to : Ticket → ℕ → Middle → Message
response_to ticket error middle = record {
  message_type = 1;
  precision = exponent_for (max ticket.half middle.half);
  error = error;
  originate = ticket.originate;
  receive = stamp_of ticket.value;
  transmit = stamp_of middle.value;
}

-- the response, unless no precision is enough for both of its readings
abbrev pub unless_wide : Ticket → ℕ → Middle → Result Message RelayFault
unless_wide ticket error middle =
    if nat_lt (precision_ns (pos 30)) (max ticket.half middle.half) then Err (faults.Wide (max ticket.half middle.half))
    else Ok (response_to ticket error middle)

-- the response, or the fault of the middle
abbrev pub answer_at : Ticket → ℕ → Result Middle RelayFault → Result Message RelayFault
answer_at ticket error (Err fault) = Err fault
answer_at ticket error (Ok middle) = unless_wide ticket error middle

-- the response to a ticket's request that declares this error, where this is known of the wall clock
abbrev pub answered : Option Interval → ℕ → Ticket → Result Message RelayFault
answered wall error ticket = answer_at ticket error (middle_known wall)

-- the datagram of a response, or the fault
abbrev pub datagram_of : Result Message RelayFault → Result (List ℕ) RelayFault
datagram_of (Err fault) = Err fault
datagram_of (Ok message) = Ok (encoded message)

-- the bytes are read as the response
pub record Responds (bytes : List ℕ) (expected : Result Message RelayFault) : Type 0 where
  pub message : Message
  pub read : decoded bytes ≡ Ok message
  pub same : expected ≡ Ok message

-- ---- by a history
-- the ticket of a request that is received at a reading after this history, or the first fault
abbrev pub received_after : Local → History → ℕ → List ℕ → Result Ticket RelayFault
received_after own history reading bytes = received (wall_span own reading (accepted_answers own history)) bytes

-- The response to a ticket's request at a reading after this history, or the first fault. It declares the greatest
-- error that an accepted answer does.
abbrev pub answered_after : Local → History → ℕ → Ticket → Result Message RelayFault
answered_after own history reading ticket =
    answered (wall_span own reading (accepted_answers own history)) (greatest_error (accepted_answers own history))
    ticket
