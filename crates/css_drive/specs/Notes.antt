-- What an observer of a companion's run is told, the newest first.
use Rattle.std.specs.Prelude.{◌≡◌, ℕ, ◌+◌, List, [], ◌∷◌, ◌++◌, length, Bool, true, false, if◌then◌else◌, Option, Some}
use Rattle.std.specs.Prelude.{None, Result, Ok, Err}
use Rattle.std.specs.Option.{option_map}
use Rattle.css_model.specs.declared.Why.{Why}
use Rattle.css_model.specs.declared.Why.TheVariants as why
use Rattle.css_model.specs.declared.Kind.{Kind}
use Rattle.css_model.specs.declared.Kind.TheVariants as kind
use Rattle.css_model.specs.declared.Failure.{Failure}
use Rattle.css_model.specs.History.{Entry, Clock, NotDialled, Sent, Took, Gone, History}
use Rattle.css_model.specs.History as entries
use Rattle.css_outside.specs.Outsides.{sleep_entries}
use Rattle.css_outside.specs.declared.calls.Clocked.{Clocked}
use Rattle.css_outside.specs.declared.calls.Heard.{Heard as Answer}
use Rattle.css_outside.specs.declared.calls.Heard.TheVariants as answer
use Rattle.css_outside.specs.declared.calls.Wrote.{Wrote as Outcome}
use Rattle.css_outside.specs.declared.calls.Wrote.TheVariants as outcome
use Rattle.css_outside.specs.declared.fault.OutFault.{OutFault}
use Rattle.css_companion.specs.declared.report.Report.{Report}
use Rattle.css_drive.specs.CompanionReports.{is_due, report_at, due_reports}
use Rattle.css_drive.specs.CompanionTurns.{turn_at, first_turn, dialled, is_peer}
use Rattle.css_drive.specs.declared.config.DriveConfig.{DriveConfig}
use Rattle.css_drive.specs.declared.session.Session.{Session}
use Rattle.css_drive.specs.declared.session.Session.TheVariants as session

-- ---- what is told
-- what the outside told that says something of a run
pub data Event : Type 0 where
  Slept : Event
  -- a turn began at this reading
  Turn : (reading : ℕ) → Event
  -- a dial of this kind was tried: its peer, or what the system said where it failed
  Dialled : (kind : Kind) → (tried : Result ℕ Failure) → Event
  -- the request of this reading was sent
  Asked : (reading : ℕ) → Event
  -- a datagram of these bytes was taken, and the reading after it was this
  Landed : (reading : ℕ) → (bytes : List ℕ) → Event
  -- a text came on this session
  Heard : (session : Session) → (text : List ℕ) → Event
  -- this session is over
  Closed : (session : Session) → Event

-- where a companion stands when something is noted: its configuration, and the history before
pub record Standpoint : Type 0 where
  pub config : DriveConfig
  pub history : History

abbrev pub standpoint : DriveConfig → History → Standpoint
standpoint config history = record { config = config; history = history }

-- an event, or a report with its number, from 1
pub data Note : Type 0 where
  Happened : (from : Standpoint) → (event : Event) → Note
  Reported : (from : Standpoint) → (number : ℕ) → (report : Report) → Note

-- ---- the notes of a history
-- the reading of a request that is to be sent next
abbrev pub asking : History → Option ℕ
asking (Clock why.Ask reading ∷ older) = Some reading
asking _ = None

-- the bytes of a datagram whose landing is to be read next; a sleep may stand between
abbrev pub landing : History → Option (List ℕ)
landing (Took peer bytes ∷ older) = Some bytes
landing (entries.Slept ∷ older) = landing older
landing _ = None

-- which of the two sessions that were dialled last has this peer
abbrev pub session_with : Option ℕ → Option ℕ → ℕ → Option Session
session_with cii ts peer =
    if is_peer cii peer then Some session.Cii else if is_peer ts peer then Some session.Ts else None

abbrev pub session_at : ℕ → History → Option Session
session_at peer older = session_with (dialled kind.Cii older) (dialled kind.Ts older) peer

abbrev pub clock_event : Why → ℕ → History → Option Event
clock_event why.Turn reading older = Some (Turn reading)
clock_event why.Land reading older = option_map (Landed reading) (landing older)
clock_event _ reading older = None

-- the event of an entry, if it has one
abbrev pub event_of : Entry → History → Option Event
event_of entries.Slept older = Some Slept
event_of (Clock why reading) older = clock_event why reading older
event_of (entries.Dialled kind peer) older = Some (Dialled kind (Ok peer))
event_of (NotDialled kind failure) older = Some (Dialled kind (Err failure))
event_of (Sent peer bytes) older = option_map Asked (asking older)
event_of (entries.Heard peer bytes) older = option_map (λ which. Heard which bytes) (session_at peer older)
event_of (entries.Closed peer) older = option_map Closed (session_at peer older)
event_of (Gone peer) older = option_map Closed (session_at peer older)
event_of _ older = None

abbrev pub with_event : Standpoint → Option Event → List Note → List Note
with_event from None notes = notes
with_event from (Some event) notes = Happened from event ∷ notes

-- the notes, with that of the report that is due with a turn, if one is
abbrev pub with_report : DriveConfig → Option ℕ → History → List Note → List Note
with_report config None older notes = notes
with_report config (Some reading) older notes =
    if is_due config.report_every reading (first_turn older) (length (due_reports config older))
    then Reported (standpoint config older) (length (due_reports config older) + 1) (report_at config older reading)
    ∷ notes
    else notes

-- The notes of a history: that of each entry, and after the note of a turn that of its report. Each is from the history
-- before its entry.
abbrev pub noted : DriveConfig → History → List Note
noted config [] = []
noted config (entry ∷ older) =
    with_report config (turn_at entry) older
    (with_event (standpoint config older) (event_of entry older) (noted config older))

-- ---- the notes of single calls
-- the same standpoint after the sleep that a reading told, if it told one
abbrev pub slept_from : Standpoint → Bool → Standpoint
slept_from from slept = standpoint from.config (sleep_entries slept ++ from.history)

abbrev pub slept_notes : Standpoint → Bool → List Note
slept_notes from true = Happened from Slept ∷ []
slept_notes from false = []

abbrev pub turn_notes : Standpoint → Clocked → List Note
turn_notes from clocked =
    Happened (slept_from from clocked.slept) (Turn clocked.reading) ∷ slept_notes from clocked.slept

-- the standpoint is that after the datagram was taken
abbrev pub landing_notes : Standpoint → Clocked → List ℕ → List Note
landing_notes from clocked bytes =
    Happened (slept_from from clocked.slept) (Landed clocked.reading bytes) ∷ slept_notes from clocked.slept

abbrev pub dial_notes : Standpoint → Kind → Result ℕ Failure → List Note
dial_notes from kind tried = Happened from (Dialled kind tried) ∷ []

abbrev pub heard_notes : Session → Standpoint → Answer → List Note
heard_notes which from answer.Quiet = []
heard_notes which from (answer.Text text) = Happened from (Heard which text) ∷ []
heard_notes which from answer.Closed = Happened from (Closed which) ∷ []

abbrev pub wrote_notes : Standpoint → Outcome → List Note
wrote_notes from outcome.Sent = []
wrote_notes from outcome.Gone = Happened from (Closed session.Ts) ∷ []

-- ---- observers
-- An observer that was not over was told these notes after the others, of which `saw` speaks.
abbrev pub Sees : {S : Type 0} → (S → S → List Note → Type 0) → (S → Option OutFault) → S → S → List Note → Type 0
Sees {S} saw over old new newest =
    (started : S) (notes : List Note) → over old ≡ None → saw started old notes → saw started new (newest ++ notes)
