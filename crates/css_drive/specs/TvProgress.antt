-- How far a television's run has come: a function of what its calls did so far.
use Rattle.std.specs.Prelude.{◌≡◌, ◌<◌, ◌==◌, ℕ, ◌+◌, nat_le, nat_lt, List, [], ◌∷◌, ◌++◌, Bool, true, false, ◌&&◌, not}
use Rattle.std.specs.Prelude.{if◌then◌else◌, Option, Some, None, Result, Ok, Err}
use Rattle.std.specs.Option.{option_map, option_to_list}
use Rattle.css_model.specs.declared.TheConstants.{LIMIT}
use Rattle.css_model.specs.declared.Why.TheVariants as why
use Rattle.css_model.specs.declared.Kind.TheVariants as peer_kind
use Rattle.css_model.specs.History.{Entry, History, Listening, Clock, Accepted, NoneCame, Sent, Took, TookNone, Quiet}
use Rattle.css_model.specs.History.{Heard, Closed, Wrote, Gone, HungUp}
use Rattle.css_model.specs.Wire.{encoded}
use Rattle.css_server.specs.Tickets.{Server, Ticket, received, after_ticket, response_to, follow_up_for}
use Rattle.css_server.specs.declared.fault.ServeFault.{ServeFault}
use Rattle.css_sessions.specs.Kept.{Kept}
use Rattle.css_sessions.specs.Told.{sessions_of, peers_of}
use Rattle.css_num.specs.declared.protocol.Kind.TheVariants as kind
use Rattle.css_tv.specs.Outcomes.{Outcome, outcome, outs}
use Rattle.css_tv.specs.Serving.{server_of}
use Rattle.css_tv.specs.Standing.{calls_of, player_after}
use Rattle.css_tv.specs.States.{addresses_of}
use Rattle.css_tv.specs.declared.config.TvConfig.{TvConfig}
use Rattle.css_tv.specs.declared.event.TvEvent.{TvEvent}
use Rattle.css_tv.specs.declared.event.TvEvent.TheVariants as event
use Rattle.css_tv.specs.declared.event.TvOut.{TvOut}
use Rattle.css_tv.specs.declared.fault.TvFault.{TvFault}
use Rattle.css_tv.specs.declared.state.Addresses.{Addresses}
use Rattle.css_schedule.specs.declared.line.ScriptLine.{ScriptLine}
use Rattle.css_schedule.specs.declared.line.Verb.{Verb}
use Rattle.css_schedule.specs.declared.line.Verb.TheVariants.{Programme, Timeline, Viewer}
use Rattle.css_outside.specs.Limits.{most_turns, IsLimit}
use Rattle.css_outside.specs.Limits as limits
use Rattle.css_outside.specs.declared.limit.Limit.{Limit}
use Rattle.css_drive.specs.declared.turns.Turns.{Turns}

-- what a television is started with, how long its run goes on, and its script, whose times are readings, or count from
-- that of the first turn
pub record TvRun : Type 0 where
  pub config : TvConfig
  pub limit : Limit
  pub relative : Bool
  pub script : List ScriptLine

-- ---- turns
-- none was begun
abbrev pub no_turns : Limit → Bool → Turns
no_turns limit relative = record { limit = limit; relative = relative; made = 0; first = 0; last = 0 }

-- One more is begun, at this reading.
abbrev pub begun : ℕ → Turns → Turns
begun reading t = record t {
  made = t.made + 1;
  first = if t.made == 0 then reading else t.first;
  last = reading;
}

-- The one that was begun last is the last by its time.
abbrev pub is_over : Turns → Bool
is_over t = limits.is_over t.limit t.first t.last

-- whether another one begins: there may be more, and the last one isn't over by its time
abbrev pub goes_on : Turns → Bool
goes_on t = nat_lt t.made (most_turns t.limit) && not (is_over t)

-- the reading from which the times of the script count
abbrev pub since : Turns → ℕ
since t = if t.relative then t.first else 0

-- the ranges
pub record IsRanged (t : Turns) : Type 0 where
  pub limit : IsLimit t.limit
  pub first : t.first < LIMIT
  pub last : t.last < LIMIT

-- one more was begun
abbrev pub IsOneMore : (before now : Turns) → Type 0
IsOneMore before now = (reading : ℕ) × (reading < LIMIT) × (now ≡ begun reading before)

-- ---- places
-- Where a run stands: by its last entry that is no output of a step and no sleep.
pub data Place : Type 0 where
  -- nothing was done
  Begins : Place
  -- the television listens
  Listens : Place
  -- a turn's reading was told, and the lines of the script are carried out that are due
  Turned : (reading : ℕ) → Place
  -- a datagram was taken, and its reading isn't told yet
  Taken : (peer : ℕ) → (bytes : List ℕ) → Place
  -- it was a request, and the reading of its answer isn't told yet
  Received : (peer : ℕ) → (ticket : Ticket) → Place
  -- these datagrams of the answer are still to be sent
  Answers : (peer : ℕ) → (datagrams : List (List ℕ)) → Place
  -- the turn has no more to do with datagrams
  Served : Place
  -- sessions are asked for their texts in order of peer, up to this one so far
  Asked : (last : Option ℕ) → Place
  -- the turns are over, and sessions are hung up in order of peer, up to this one so far
  Over : (last : ℕ) → Place

-- Which turns were begun, and where the last one stands; the television's end of the wall clock; what happened at
-- the television, the newest event first; what is still to be done at its sessions, in order; the lines of the script
-- that were not carried out yet, and how many were; and why the first of those lines is refused, if it was.
pub record Progress : Type 0 where
  pub turns : Turns
  pub place : Place
  pub server : Server
  pub events : List TvEvent
  pub owed : List TvOut
  pub lines : List ScriptLine
  pub carried : ℕ
  pub refused : Option TvFault

-- ---- events
-- what an event does to a television with these addresses after these events
abbrev pub outcome_after : Addresses → List TvEvent → TvEvent → Result Outcome TvFault
outcome_after a events e = outcome a e (player_after a events) (sessions_of (calls_of a events).sessions)

abbrev pub outs_in : Kept → Result Outcome TvFault → List TvOut
outs_in kept (Err fault) = []
outs_in kept (Ok o) = outs o kept

-- what it has the television do at its sessions, in order
abbrev pub outs_after : Addresses → List TvEvent → TvEvent → List TvOut
outs_after a events e = outs_in (sessions_of (calls_of a events).sessions) (outcome_after a events e)

-- An event more: what it has the television do comes after what is owed already.
abbrev pub happened : Addresses → TvEvent → Progress → Progress
happened a e p = record p { events = e ∷ p.events; owed = p.owed ++ outs_after a p.events e }

-- the peers whose sessions are open, in rising order
abbrev pub open_after : Addresses → List TvEvent → List ℕ
open_after a events = peers_of (calls_of a events).sessions

-- ---- lines of the script
-- what a line is at the television, where it is carried out at this reading
abbrev pub event_of : ℕ → Verb → Option TvEvent
event_of reading (Programme content_id) = Some (event.Programme content_id)
event_of reading (Timeline programme selector rate base) = Some (event.AddTimeline programme selector rate base)
event_of reading (Viewer unused command) = Some (event.Viewer command reading)
event_of reading _ = None

-- one line more was carried out, and these are left
abbrev pub past_line : List ScriptLine → Progress → Progress
past_line left p = record p { lines = left; carried = p.carried + 1 }

abbrev pub played : Addresses → TvEvent → List ScriptLine → Progress → Result Outcome TvFault → Progress
played a e left p (Err fault) = record p { refused = Some fault }
played a e left p (Ok o) = past_line left (happened a e p)

abbrev pub played_if : Addresses → List ScriptLine → Progress → Option TvEvent → Progress
played_if a left p None = past_line left p
played_if a left p (Some e) = played a e left p (outcome_after a p.events e)

-- the line before these was carried out, or the player refused it
abbrev pub with_line : Addresses → ℕ → ScriptLine → List ScriptLine → Progress → Progress
with_line a reading line left p = played_if a left p (event_of reading line.verb)

abbrev pub is_free_of : Option TvFault → List TvOut → Bool
is_free_of None [] = true
is_free_of None (out ∷ owed) = false
is_free_of (Some fault) owed = false

-- nothing is owed, and no line was refused
abbrev pub is_free : Progress → Bool
is_free p = is_free_of p.refused p.owed

-- A line is due in a turn whose reading isn't below its time, which counts from the reading `from`.
abbrev pub is_due : ℕ → ℕ → ScriptLine → Bool
is_due from reading line = nat_le (from + line.due) reading

-- Lines are carried out as long as they are due, each as soon as nothing is owed for those before it.
abbrev pub carry : Addresses → ℕ → ℕ → List ScriptLine → Progress → Progress
carry a from reading [] p = p
carry a from reading (line ∷ left) p =
    if is_free p && is_due from reading line then carry a from reading left (with_line a reading line left p) else p

abbrev pub settled_at : Addresses → Place → Progress → Progress
settled_at a (Turned reading) p = carry a (since p.turns) reading p.lines p
settled_at a _ p = p

-- at the beginning of a turn the lines that are due are carried out
abbrev pub settled : Addresses → Progress → Progress
settled a p = settled_at a p.place p

-- ---- datagrams
abbrev pub ticketed : ℕ → ℕ → Progress → Result Ticket ServeFault → Progress
ticketed peer reading p (Err fault) = record p { place = Served }
ticketed peer reading p (Ok ticket) =
    record p { place = Received peer ticket; server = after_ticket p.server reading }

-- the datagram that was taken is received at a reading: it is dropped unless it is a request
abbrev pub received_at : ℕ → Place → Progress → Progress
received_at reading (Taken peer bytes) p = ticketed peer reading p (received p.server bytes reading)
received_at reading _ p = p

-- the datagrams that answer a request at a reading: the response, and the follow-up that it promises
abbrev pub answers : Server → Ticket → ℕ → List (List ℕ)
answers server ticket reading = encoded (response_to server ticket reading)
    ∷ option_to_list (option_map encoded (follow_up_for server ticket reading))

abbrev pub answering : ℕ → List (List ℕ) → Place
answering peer [] = Served
answering peer (datagram ∷ datagrams) = Answers peer (datagram ∷ datagrams)

abbrev pub answered_at : ℕ → Place → Progress → Progress
answered_at reading (Received peer ticket) p = record p { place = answering peer (answers p.server ticket reading) }
answered_at reading _ p = p

-- one of the datagrams was sent
abbrev pub sent_at : Place → Place
sent_at (Answers peer (datagram ∷ datagrams)) = answering peer datagrams
sent_at place = place

-- ---- entries
-- what was owed first is done
abbrev pub without_first : List TvOut → List TvOut
without_first [] = []
without_first (out ∷ owed) = owed

abbrev pub one_done : Progress → Progress
one_done p = record p { owed = without_first p.owed }

-- a session that was hung up: as a step says, or since the turns are over
abbrev pub hung_up : ℕ → List TvOut → Progress → Progress
hung_up peer [] p = record p { place = Over peer }
hung_up peer (out ∷ owed) p = record p { owed = owed }

-- where sessions are asked for their texts next
abbrev pub asked : Option ℕ → Progress → Progress
asked last p = record p { place = Asked last }

-- A session that a peer opened is of CSS-CII or of CSS-TS. A text that is told as gone is the event that its session
-- closed.
abbrev pub after : Addresses → Entry → Progress → Progress
after a (Listening host port) p = record p { place = Listens }
after a (Clock why.Turn reading) p = settled a (record p { turns = begun reading p.turns; place = Turned reading })
after a (Clock why.Take reading) p = received_at reading p.place p
after a (Clock why.Give reading) p = answered_at reading p.place p
after a (Accepted peer peer_kind.Wc) p = asked None p
after a (Accepted peer peer_kind.Cii) p = happened a (event.Opened peer kind.Cii) (asked None p)
after a (Accepted peer peer_kind.Ts) p = happened a (event.Opened peer kind.Ts) (asked None p)
after a NoneCame p = asked None p
after a (Sent peer bytes) p = record p { place = sent_at p.place }
after a (Took peer bytes) p = record p { place = Taken peer bytes }
after a TookNone p = record p { place = Served }
after a (Quiet peer) p = asked (Some peer) p
after a (Heard peer bytes) p = happened a (event.Heard peer bytes) (asked (Some peer) p)
after a (Closed peer) p = happened a (event.Closed peer) (asked (Some peer) p)
after a (Wrote peer bytes) p = settled a (one_done p)
after a (Gone peer) p = settled a (happened a (event.Closed peer) (one_done p))
after a (HungUp peer) p = settled a (hung_up peer p.owed p)
after a _ p = p

-- where the television of a configuration is reached
abbrev pub addresses_in : TvConfig → Addresses
addresses_in c = addresses_of c.host c.port

-- nothing was done yet
abbrev pub beginning : TvRun → Progress
beginning run = record {
  turns = no_turns run.limit run.relative;
  place = Begins;
  server = server_of run.config;
  events = [];
  owed = [];
  lines = run.script;
  carried = 0;
  refused = None;
}

-- how far a run has come
abbrev pub progress_of : TvRun → History → Progress
progress_of run [] = beginning run
progress_of run (entry ∷ older) = after (addresses_in run.config) entry (progress_of run older)
