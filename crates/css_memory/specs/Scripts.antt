-- What an outside in memory gives, and what it has told.
use Rattle.std.specs.Prelude.{◌≡◌, ℕ, ◌≤◌, ◌<◌, IsTrue, ◌+◌, ◌&&◌, ◌||◌, ◌==◌, not, nat_le, nat_lt}
use Rattle.std.specs.Prelude.{List, [], ◌∷◌, ◌++◌, take, drop, length, fold, position, Bool, true}
use Rattle.std.specs.Prelude.{false, Option, Some, None, if◌then◌else◌, nat_eq, slice_get, remove}
use Rattle.std.specs.Prelude.{Result, Ok, Err, MatchResult, IsErr, Contains, ◌↔◌}
use Rattle.std.specs.List.{list_any}
use Rattle.std.specs.Option.{option_and_then, option_map}
use Rattle.css_model.specs.declared.Why.{Why}
use Rattle.css_model.specs.declared.TheConstants.{LIMIT}
use Rattle.css_model.specs.declared.Kind.{Kind}
use Rattle.css_model.specs.declared.Kind.TheVariants as kind
use Rattle.css_model.specs.declared.Failure.{Failure}
use Rattle.css_model.specs.declared.Failure.TheVariants as failure
use Rattle.css_model.specs.History.{History, Listening, Dialling, Dialled, NotDialled, Sent, HungUp, Took, TookNone}
use Rattle.css_outside.specs.declared.fault.OutFault.{OutFault}
use Rattle.css_outside.specs.Faults.{HasFailed}
use Rattle.css_outside.specs.declared.fault.OutFault.TheVariants as fault
use Rattle.css_outside.specs.Outsides.{Counts, clock_entries, opening_entries, heard_entries, wrote_entries}
use Rattle.css_outside.specs.declared.calls.Clocked.{Clocked}
use Rattle.css_model.specs.History.{Address}
use Rattle.css_outside.specs.declared.calls.Heard.{Heard as SessionSaid}
use Rattle.css_outside.specs.declared.calls.Heard.TheVariants as heard
use Rattle.css_outside.specs.declared.calls.Wrote.{Wrote as Outcome}
use Rattle.css_outside.specs.declared.calls.Wrote.TheVariants as outcome
use Rattle.css_memory.specs.declared.script.Datagram.{Datagram}
use Rattle.css_memory.specs.declared.script.OutsideScript.{OutsideScript}
use Rattle.css_memory.specs.declared.script.SessionHeard.{SessionHeard}
use Rattle.css_memory.specs.Failing.{next_count}
use Rattle.css_memory.specs.declared.scripted.Note.{Note}
use Rattle.css_memory.specs.declared.scripted.Note.TheVariants as note

-- ---- what is told
-- the entries of a call that was noted, the newest first
abbrev pub entries_of : Note → History
entries_of (note.Listened host port) = Listening host port ∷ []
entries_of (note.Read why clocked) = clock_entries why clocked
entries_of (note.Dialled kind to peer) = Dialled kind peer ∷ Dialling kind to ∷ []
entries_of (note.NotDialled kind to failure) = NotDialled kind failure ∷ Dialling kind to ∷ []
entries_of (note.Came opening) = opening_entries opening
entries_of (note.Sent peer bytes) = Sent peer bytes ∷ []
entries_of (note.Took peer bytes) = Took peer bytes ∷ []
entries_of note.TookNone = TookNone ∷ []
entries_of (note.Said peer said) = heard_entries peer said
entries_of (note.Wrote peer bytes outcome) = wrote_entries peer bytes outcome
entries_of (note.HungUp peer) = HungUp peer ∷ []

-- what the calls did, the newest first; the notes of them have the oldest first
abbrev pub history_of : List Note → History
history_of notes = fold (λ history made. entries_of made ++ history) [] notes

-- ---- the state of an outside in memory
-- What it has still to give; which calls fail, what the failed dials still to come tell, and how many calls were made;
-- how many texts it has sent; the peers of its sessions, in order; the last reading and the greatest peer; and what its
-- calls did, the newest first.
pub record Scripted : Type 0 where
  pub readings : List Clocked
  pub datagrams : List (Option Datagram)
  pub openings : List (Option Kind)
  pub texts : List SessionHeard
  pub gone : List ℕ
  pub fails : List ℕ
  pub failures : List Failure
  pub calls : ℕ
  pub sends : ℕ
  pub sessions : List ℕ
  pub last : ℕ
  pub peers : ℕ
  pub told : History

-- with the entries of one more call
abbrev pub telling : History → Scripted → Scripted
telling entries state = record state { told = entries ++ state.told }

-- ---- what is given
-- a reading that may be told after the last one
abbrev pub is_next : ℕ → Clocked → Bool
is_next last clocked =
    nat_lt clocked.reading LIMIT && (nat_le last clocked.reading && (not clocked.slept || nat_lt last clocked.reading))

-- the readings may be told after the last one, in turn
abbrev pub are_readings : ℕ → List Clocked → Bool
are_readings last [] = true
are_readings last (clocked ∷ later) = is_next last clocked && are_readings clocked.reading later

-- sessions are of CSS-CII or of CSS-TS
abbrev pub is_session : Option Kind → Bool
is_session None = true
is_session (Some kind.Wc) = false
is_session (Some kind.Cii) = true
is_session (Some kind.Ts) = true

abbrev pub are_sessions : List (Option Kind) → Bool
are_sessions [] = true
are_sessions (opening ∷ openings) = is_session opening && are_sessions openings

-- the next reading: past the end of the list the last one is told again, and no sleep with it
abbrev pub next_reading : ℕ → List Clocked → Clocked
next_reading last [] = record { reading = last; slept = false }
next_reading last (clocked ∷ later) = clocked

abbrev pub read_once : Why → Scripted → Scripted
read_once why state =
    let clocked = next_reading state.last state.readings in
    telling (clock_entries why clocked) (record state { readings = drop 1 state.readings; last = clocked.reading })

-- the next item, and none past the end
abbrev pub next_item : {T : Type 0} → List (Option T) → Option T
next_item [] = None
next_item (item ∷ items) = item

-- the bytes of a datagram that have room
abbrev pub in_room : Datagram → List ℕ
in_room datagram = take 64 datagram.bytes

-- the sender and the length of what is taken
abbrev pub taken_from : Option Datagram → Option (ℕ × ℕ)
taken_from datagram = option_map (λ d. (d.peer, length (in_room d))) datagram

abbrev pub taking : Option Datagram → History
taking None = TookNone ∷ []
taking (Some datagram) = Took datagram.peer (in_room datagram) ∷ []

abbrev pub took_once : Scripted → Scripted
took_once state = telling (taking (next_item state.datagrams)) (record state { datagrams = drop 1 state.datagrams })

-- the place of the next text of the session that is the one after so many
abbrev pub place_in : List SessionHeard → ℕ → Option ℕ
place_in texts before = position (λ text. text.session == before + 1) texts

-- the place of the next text of a peer's session
abbrev pub next_place : ℕ → List SessionHeard → List ℕ → Option ℕ
next_place peer texts sessions = option_and_then (place_in texts) (position (λ other. other == peer) sessions)

abbrev pub option_heard : Option SessionHeard → SessionSaid
option_heard None = heard.Quiet
option_heard (Some text) = text.heard

-- what the text at a place tells, and Quiet past the end
abbrev pub heard_at : List SessionHeard → Option ℕ → SessionSaid
heard_at texts None = heard.Quiet
heard_at texts (Some place) = option_heard (slice_get texts place)

-- the texts without the one at a place
abbrev pub without : List SessionHeard → Option ℕ → List SessionHeard
without texts None = texts
without texts (Some place) = remove texts place

abbrev pub next_heard : ℕ → Scripted → SessionSaid
next_heard peer state = heard_at state.texts (next_place peer state.texts state.sessions)

abbrev pub heard_once : ℕ → Scripted → Scripted
heard_once peer state =
    telling (heard_entries peer (next_heard peer state))
    (record state { texts = without state.texts (next_place peer state.texts state.sessions) })

-- ---- the beginning
abbrev pub begun : OutsideScript → Scripted
begun script = record {
  readings = script.readings.items;
  datagrams = script.datagrams.items;
  openings = script.openings.items;
  texts = script.texts.items;
  gone = script.gone.items;
  fails = script.fails.items;
  failures = [];
  calls = 0;
  sends = 0;
  sessions = [];
  last = 0;
  peers = 0;
  told = [];
}

-- what is always true of the devices: they stand within their lists, and what they have still to give may be given
pub record IsScripted (read taken opened last : ℕ) (readings : List Clocked) (datagrams : List (Option Datagram))
    (openings : List (Option Kind)) : Type 0 where
  pub read_within : read ≤ length readings
  pub taken_within : taken ≤ length datagrams
  pub opened_within : opened ≤ length openings
  pub rising : IsTrue (are_readings last (drop read readings))
  pub sessions_only : IsTrue (are_sessions (drop opened openings))
  pub below : last < LIMIT

-- a session of CSS-CII or CSS-TS is kept by its peer
abbrev pub with_session : Kind → ℕ → List ℕ → List ℕ
with_session kind.Wc peer sessions = sessions
with_session kind.Cii peer sessions = sessions ++ peer ∷ []
with_session kind.Ts peer sessions = sessions ++ peer ∷ []

abbrev pub dialled : Kind → Address → Scripted → Scripted
dialled kind to state =
    let peer = state.peers + 1 in
    telling (Dialled kind peer ∷ Dialling kind to ∷ []) (record state {
      sessions = with_session kind peer state.sessions;
      peers = peer;
    })

-- the session that comes next, with the next peer's number
abbrev pub next_opening : Scripted → Option (ℕ × Kind)
next_opening state = option_map (λ kind. (state.peers + 1, kind)) (next_item state.openings)

abbrev pub opened_as : Option Kind → Scripted → Scripted
opened_as None state = telling (opening_entries None) state
opened_as (Some kind) state =
    let peer = state.peers + 1 in
    telling (opening_entries (Some (peer, kind))) (record state {
      sessions = state.sessions ++ peer ∷ [];
      peers = peer;
    })

abbrev pub opened_once : Scripted → Scripted
opened_once state = opened_as (next_item state.openings) (record state { openings = drop 1 state.openings })

-- what becomes of the next text that is sent
abbrev pub next_wrote : Scripted → Outcome
next_wrote state =
    if list_any (λ number. nat_eq number (next_count state.sends)) state.gone then outcome.Gone else outcome.Sent

abbrev pub wrote_once : ℕ → List ℕ → Scripted → Scripted
wrote_once peer bytes state =
    telling (wrote_entries peer bytes (next_wrote state)) (record state { sends = next_count state.sends })

-- an outside some of whose calls fail: how often a dial has failed, and how often any other call
pub record FailingOutside : Type 0 where
  pub devices : Scripted
  pub dial_faults : ℕ
  pub faults : ℕ

-- what is counted of it
abbrev pub counts_of : FailingOutside → Counts
counts_of state = record {
  dial_faults = state.dial_faults;
  faults = state.faults;
  last = state.devices.last;
  peers = state.devices.peers;
}

-- what is counted of an outside that never fails
abbrev pub counts_at : Scripted → Counts
counts_at state = record { dial_faults = 0; faults = 0; last = state.last; peers = state.peers }

-- a call fails exactly where its number stands in the list of those that do
abbrev pub FailsWhereTold : {T : Type 0} → Scripted → Result T OutFault → Type 0
FailsWhereTold state result = HasFailed result ↔ Contains state.fails (next_count state.calls)

-- A dial that is to fail may lack the memory to be told.
pub record DialFailsWhereTold {T : Type 0} (state : Scripted) (result : Result T OutFault) : Type 0 where
  pub only : HasFailed result → Contains state.fails (next_count state.calls)
  pub always : Contains state.fails (next_count state.calls) → IsErr result

-- ---- what a call leaves
-- one more call was made
abbrev pub counted : Scripted → Scripted
counted state = record state { calls = next_count state.calls }

-- a call that is Ok makes a step, and any other call takes nothing
abbrev pub Steps : {T E : Type 0} → Scripted → Scripted → Result T E → Scripted → Type 0
Steps before now result stepped = MatchResult result (λ _. now ≡ stepped) (λ _. now ≡ before)

-- the same of a call that may fail, which is counted
abbrev pub StepsCounted : {T E : Type 0} → Scripted → Scripted → Result T E → Scripted → Type 0
StepsCounted before now result stepped = Steps (counted before) now result (counted stepped)

-- what the next dial that fails tells
abbrev pub next_failure : List Failure → Failure
next_failure [] = failure.Other
next_failure (said ∷ later) = said

-- a dial that fails is told
abbrev pub dial_failed : Kind → Address → Scripted → Scripted
dial_failed kind to state =
    telling (NotDialled kind (next_failure state.failures) ∷ Dialling kind to ∷ []) (record state {
      failures = drop 1 state.failures;
    })

abbrev pub StepsDial : Kind → Address → Scripted → Scripted → Result ℕ OutFault → Type 0
StepsDial kind to before now (Ok peer) = now ≡ counted (dialled kind to before)
StepsDial kind to before now (Err (fault.Failed said)) =
    (said ≡ next_failure before.failures) × (now ≡ counted (dial_failed kind to before))
StepsDial kind to before now (Err fault.Memory) = now ≡ counted before
