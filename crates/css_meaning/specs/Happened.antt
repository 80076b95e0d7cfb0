-- What the lines of a schedule say that its ends did. In each list the newest stands first.
use Rattle.std.specs.Prelude.{ℕ, ◌==◌, ◌&&◌, Bool, false, if◌then◌else◌, List, [], ◌∷◌, ◌++◌, Option, Some, None, map}
use Rattle.std.specs.Prelude.{unwrap_or}
use Rattle.std.specs.Option.{option_map, option_to_list}
use Rattle.std.specs.List.{list_any}
use Rattle.css_model.specs.declared.Message.{Message}
use Rattle.css_model.specs.declared.Why.TheVariants as why
use Rattle.css_model.specs.Wire.{encoded, request_at, stamp_of}
use Rattle.css_model.specs.declared.Kind.TheVariants as session
use Rattle.css_model.specs.History.{Clock, Sent, Took, Slept, Dialled, Heard, Wrote, Closed, History}
use Rattle.css_server.specs.Tickets.{Server, Ticket, is_greater, response_to, follow_up_for}
use Rattle.css_server.specs.Exchanges.{greatest_reading}
use Rattle.css_tsmsg.specs.Presentations.{presentation_text}
use Rattle.css_tsmsg.specs.Setups.{setup_text}
use Rattle.css_num.specs.declared.protocol.Kind.{Kind}
use Rattle.css_num.specs.declared.protocol.Kind.TheVariants as kind
use Rattle.css_tv.specs.declared.event.TvEvent.{TvEvent}
use Rattle.css_tv.specs.declared.event.TvEvent.TheVariants as event
use Rattle.css_companion.specs.Steps.{window}
use Rattle.css_schedule.specs.declared.header.Header.{Header}
use Rattle.css_schedule.specs.declared.line.Line.{Line}
use Rattle.css_schedule.specs.declared.line.Verb.{Verb}
use Rattle.css_schedule.specs.declared.line.Verb.TheVariants.{Ask, Take, Give, Land, Wall, Print}
use Rattle.css_schedule.specs.declared.line.Verb.TheVariants.{Programme, Timeline, Viewer}
use Rattle.css_schedule.specs.declared.line.Verb.TheVariants.{Opening, Bring, Up, Present, Close, Sleep}
use Rattle.css_meaning.specs.Numbering.{numbered}
use Rattle.css_meaning.specs.Sessions.{peer_of, setup_of, next_down, next_up}

-- a line of a schedule, and its number there
pub record Numbered : Type 0 where
  pub number : ℕ
  pub line : Line

-- ---- requests
abbrev pub asked_by : Verb → Option ℕ
asked_by (Ask reading) = Some reading
asked_by _ = None

-- the readings at which companions sent their requests
abbrev pub requests : List Numbered → List ℕ
requests [] = []
requests (now ∷ older) = option_to_list (asked_by now.line.verb) ++ requests older

-- the companion that sent a request at a line, if it did
abbrev pub asker_of : Line → Option ℕ
asker_of line = option_map (λ reading. line.who) (asked_by line.verb)

-- the companions that sent the requests
abbrev pub askers : List Numbered → List ℕ
askers [] = []
askers (now ∷ older) = option_to_list (asker_of now.line) ++ askers older

-- ---- takes
-- The ticket of a request that was sent at a reading: it promises a follow-up where the television does so, and its own
-- reading is greater than that of each earlier ticket.
abbrev pub ticket_at : Header → List Ticket → ℕ → ℕ → Ticket
ticket_at header older reading asked = record {
  originate = stamp_of asked;
  reading = reading;
  follow_up = header.follow && is_greater reading (greatest_reading older);
}

-- the ticket of a take, if its request was sent
abbrev pub ticket_by : Header → List ℕ → List Ticket → Verb → Option Ticket
ticket_by header asked older (Take request reading) =
    option_map (ticket_at header older reading) (numbered request asked)
ticket_by header asked older _ = None

-- the tickets of the takes
abbrev pub tickets : Header → List Numbered → List Ticket
tickets header [] = []
tickets header (now ∷ older) =
    option_to_list (ticket_by header (requests older) (tickets header older) now.line.verb) ++ tickets header older

-- the companion whose request a take received, if it was sent
abbrev pub asker_by : List ℕ → Verb → Option ℕ
asker_by asked (Take request reading) = numbered request asked
asker_by asked _ = None

-- the companions whose requests the takes received
abbrev pub taken_for : List Numbered → List ℕ
taken_for [] = []
taken_for (now ∷ older) = option_to_list (asker_by (askers older) now.line.verb) ++ taken_for older

-- ---- datagrams
-- what the television declares
abbrev pub server_of : Header → Server
server_of header = record {
  precision = header.tv_precision;
  error = header.tv_error;
  follow = header.follow;
  greatest = None;
}

-- the answer to a ticket that is given at a reading: the response and, where it promises one, its follow-up
abbrev pub answers_to : Server → ℕ → Option Ticket → List Message
answers_to server reading None = []
answers_to server reading (Some ticket) =
    option_to_list (follow_up_for server ticket reading) ++ response_to server ticket reading ∷ []

-- the datagrams of an answer
abbrev pub answers_by : Header → List Ticket → Verb → List Message
answers_by header taken (Give take reading) = answers_to (server_of header) reading (numbered take taken)
answers_by header taken _ = []

-- the television's datagrams
abbrev pub datagrams : Header → List Numbered → List Message
datagrams header [] = []
datagrams header (now ∷ older) = answers_by header (tickets header older) now.line.verb ++ datagrams header older

-- the companion that the datagrams of an answer are for, once for each of them
abbrev pub owners_by : Header → List Ticket → List ℕ → Verb → List ℕ
owners_by header taken owners (Give take reading) =
    map (λ message. unwrap_or (numbered take owners) 0) (answers_by header taken (Give take reading))
owners_by header taken owners _ = []

-- the companions that the television's datagrams are for
abbrev pub made_for : Header → List Numbered → List ℕ
made_for header [] = []
made_for header (now ∷ older) =
    owners_by header (tickets header older) (taken_for older) now.line.verb ++ made_for header older

-- whether a take is answered by a line
abbrev pub gives : ℕ → Verb → Bool
gives take (Give given reading) = given == take
gives take _ = false

-- whether it is answered by one of these lines
abbrev pub is_given : ℕ → List Numbered → Bool
is_given take lines = list_any (λ now. gives take now.line.verb) lines

-- ---- what the television did
-- What happens at the television by a line of companion `who`, after its events and what that companion did.
abbrev pub event_by : ℕ → List TvEvent → History → Verb → Option TvEvent
event_by who events own (Programme content_id) = Some (event.Programme content_id)
event_by who events own (Timeline programme selector rate base) = Some (event.AddTimeline programme selector rate base)
event_by who events own (Viewer reading command) = Some (event.Viewer command reading)
event_by who events own (Opening kind) = Some (event.Opened (peer_of who kind) kind)
event_by who events own Up = option_map (event.Heard (peer_of who kind.Ts)) (next_up who events own)
event_by who events own (Close kind) = Some (event.Closed (peer_of who kind))
event_by who events own _ = None

-- ---- what a companion did
-- what a datagram's bytes are; there is no other
abbrev pub bytes_of : Option Message → List ℕ
bytes_of None = []
bytes_of (Some message) = encoded message

-- the number of the wall clock's peer
abbrev pub peer : ℕ
peer = 0

-- a session that opens; the companion writes its setup at once where it is of CSS-TS
abbrev pub dialled : Header → ℕ → Kind → History → History
dialled header who kind.Cii older = Dialled session.Cii (peer_of who kind.Cii) ∷ older
dialled header who kind.Ts older =
    Wrote (peer_of who kind.Ts) (setup_text (setup_of who header)) ∷ Dialled session.Ts (peer_of who kind.Ts) ∷ older

-- a text that came, if there was one
abbrev pub hearing : ℕ → Option (List ℕ) → History → History
hearing from None older = older
hearing from (Some bytes) older = Heard from bytes ∷ older

-- What a companion did at a line of its own, after its history, where these datagrams were made and this happened at
-- the television.
abbrev pub done_by : Header → ℕ → List Message → List TvEvent → Verb → History → History
done_by header who made events (Ask reading) older =
    Sent peer (encoded (request_at reading)) ∷ Clock why.Ask reading ∷ older
done_by header who made events (Land number reading) older =
    Clock why.Land reading ∷ Took peer (bytes_of (numbered number made)) ∷ older
done_by header who made events (Wall reading) older = Clock why.Turn reading ∷ older
done_by header who made events (Print reading) older = Clock why.Turn reading ∷ older
done_by header who made events (Opening kind) older = dialled header who kind older
done_by header who made events (Bring kind) older = hearing (peer_of who kind) (next_down who kind events older) older
done_by header who made events (Present earliest latest) older =
    Wrote (peer_of who kind.Ts) (presentation_text (window earliest latest)) ∷ older
done_by header who made events (Close kind) older = Closed (peer_of who kind) ∷ older
done_by header who made events Sleep older = Slept ∷ older
done_by header who made events _ older = older

-- ---- both ends
-- what happened at the television, and what each companion did, by its number
pub record Ends : Type 0 where
  pub tv : List TvEvent
  pub own : ℕ → History

-- both after a line, where these datagrams were made before
abbrev pub after_line : Header → List Message → Numbered → Ends → Ends
after_line header made now ends = record {
  tv = option_to_list (event_by now.line.who ends.tv (ends.own now.line.who) now.line.verb) ++ ends.tv;
  own =
      λ who. if now.line.who == who then done_by header who made ends.tv now.line.verb (ends.own who) else ends.own who;
}

abbrev pub ends_of : Header → List Numbered → Ends
ends_of header [] = record { tv = []; own = λ who. [] }
ends_of header (now ∷ older) = after_line header (datagrams header older) now (ends_of header older)

-- what happened at the television
abbrev pub events_of : Header → List Numbered → List TvEvent
events_of header lines = (ends_of header lines).tv

-- what companion `who` did
abbrev pub history_of : ℕ → Header → List Numbered → History
history_of who header lines = (ends_of header lines).own who
