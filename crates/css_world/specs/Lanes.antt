-- The companions of a world beside the television: which events and which histories all stand for.
use Rattle.std.specs.Prelude.{◌≡◌, ◌≢◌, ◌≤◌, true, ℕ, List, [], ◌∷◌, map, length, Option, Some, None}
use Rattle.std.specs.Prelude.{Result, Ok, Err, OnOk}
use Rattle.css_num.specs.Gives.{GivesBy}
use Rattle.css_model.specs.History.{Entry, Dialled, History}
use Rattle.css_model.specs.WallClock.{IsLocal}
use Rattle.css_num.specs.declared.protocol.Kind.{Kind}
use Rattle.css_num.specs.declared.protocol.Kind.TheVariants as kind
use Rattle.css_model.specs.declared.Kind.TheVariants as session
use Rattle.css_tv.specs.Stages.{Television as Tv}
use Rattle.css_tv.specs.Standing as tvs
use Rattle.css_tv.specs.declared.event.TvEvent.{TvEvent}
use Rattle.css_tv.specs.declared.event.TvOut.{TvOut}
use Rattle.css_companion.specs.Standing as companions
use Rattle.css_companion.specs.Standing.{Companion}
use Rattle.css_companion.specs.Steps.{owed, stepped, IsEntryOf}
use Rattle.css_companion.specs.declared.event.CompanionEvent.{CompanionEvent}
use Rattle.css_companion.specs.declared.event.CompanionEvent.TheVariants as happening
use Rattle.css_companion.specs.declared.fault.CompanionFault.{CompanionFault}
use Rattle.css_schedule.specs.declared.header.CompanionLine.{CompanionLine}
use Rattle.css_tsmsg.specs.Setups.{setup_text}
use Rattle.css_tsmsg.specs.declared.setup.Setup.{Setup}
use Rattle.css_schedule.specs.declared.header.Header.{Header}
use Rattle.css_meaning.specs.declared.fault.WorldFault.{WorldFault}
use Rattle.css_meaning.specs.declared.fault.WorldFault.TheVariants as faults
use Rattle.css_meaning.specs.Clocks.{Seen, least_next, last_reading, has_woken}
use Rattle.css_meaning.specs.Numbering.{stored}
use Rattle.css_meaning.specs.Sessions.{peer_of, setup_of}
use Rattle.css_meaning.specs.Verdicts.{local_of, played}
use Rattle.css_world.specs.declared.lane.Lane.{Lane}
use Rattle.css_world.specs.Flights.{Session, unopened, SessionStands, HasNews, with_news, with_written, news_of}
use Rattle.css_world.specs.Flights.{first_in, rest_in}

-- The companion with this number stands for its history, and its sessions for that and for what happened at the
-- television.
pub record LaneStands (who : ℕ) (events : List TvEvent) (own : History) (lane : Lane) : Type 0 where
  pub companion : companions.StandsFor lane.companion own
  pub cii : SessionStands (peer_of who kind.Cii) events own lane.cii
  pub ts : SessionStands (peer_of who kind.Ts) events own lane.ts

-- so do all companions for theirs
abbrev pub LanesStand : List TvEvent → (ℕ → History) → List Lane → Type 0
LanesStand events own lanes = (who : ℕ) (lane : Lane) → stored lanes who ≡ Some lane
    → LaneStands who events (own who) lane

-- What is always true of the lane of companion `who` after lines: it is as the header declares, and its companion may
-- be asked at each reading that may come next, also after a sleep.
pub record IsLaneOf (header : Header) (who : ℕ) (seen : List Seen) (lane : Lane) : Type 0 where
  pub own : companions.own_of lane.companion ≡ local_of who header
  pub setup : lane.companion.setup ≡ setup_of who header
  pub floor : lane.companion.client.floor ≤ least_next (has_woken seen) (last_reading seen)
  pub after_sleep : lane.companion.client.after_sleep ≤ least_next true (last_reading seen)

-- what a companion of a schedule asks of the television
abbrev pub setup_by : CompanionLine → Setup
setup_by declared = record { stem = declared.stem; selector = declared.selector }

-- a lane of a companion that did nothing yet, as its line declares it
pub record IsFresh (declared : CompanionLine) (lane : Lane) : Type 0 where
  pub local : IsLocal declared.local
  pub setup : lane.companion.setup ≡ setup_by declared
  pub own : companions.own_of lane.companion ≡ declared.local
  pub floor : lane.companion.client.floor ≡ 0
  pub after_sleep : lane.companion.client.after_sleep ≡ 0
  pub stands : companions.StandsFor lane.companion []
  pub cii : lane.cii ≡ unopened
  pub ts : lane.ts ≡ unopened

-- a fresh lane for each of these companions
pub record AreFresh (companions : List CompanionLine) (lanes : List Lane) : Type 0 where
  pub count : length lanes ≡ length companions
  pub each : (who : ℕ) (declared : CompanionLine) (lane : Lane) → stored companions who ≡ Some declared
      → stored lanes who ≡ Some lane → IsFresh declared lane

-- ---- one lane of all
-- each lane keeps its companion
pub record KeepsAllButTexts (old new : List Lane) : Type 0 where
  pub companions : map (λ (lane : Lane). lane.companion) new ≡ map (λ (lane : Lane). lane.companion) old

-- ---- one session of a lane
-- the session of that kind
abbrev pub session_at : Kind → Lane → Session
session_at kind.Cii lane = lane.cii
session_at kind.Ts lane = lane.ts

abbrev pub other : Kind → Kind
other kind.Cii = kind.Ts
other kind.Ts = kind.Cii

-- the television's next text on it, and the session without that text
abbrev pub next_at : Kind → Lane → Option (List ℕ)
next_at k lane = first_in (session_at k lane).phase (session_at k lane).down

abbrev pub taken_at : Kind → Lane → Session
taken_at k lane = record {
  phase = (session_at k lane).phase;
  down = rest_in (session_at k lane).phase (session_at k lane).down;
  up = (session_at k lane).up;
}

-- Nothing but the session of that kind was touched.
pub record KeepsAllBut (k : Kind) (old new : Lane) : Type 0 where
  pub companion : new.companion ≡ old.companion
  pub other : session_at (other k) new ≡ session_at (other k) old

-- ---- what a companion does
-- a text comes on its session of that kind
abbrev pub heard_as : Kind → List ℕ → CompanionEvent
heard_as kind.Cii text = happening.CiiText text
heard_as kind.Ts text = happening.TsText text

-- this session closes
abbrev pub closed_as : Kind → CompanionEvent
closed_as kind.Cii = happening.CiiClosed
closed_as kind.Ts = happening.TsClosed

-- a companion doesn't refuse an event
abbrev pub IsTaken : Companion → CompanionEvent → Type 0
IsTaken companion event = (text : Option (List ℕ)) × (owed companion event ≡ Ok text)

-- what is owed after an event is in flight
abbrev pub with_owed : Result (Option (List ℕ)) CompanionFault → Session → Session
with_owed (Ok text) session = with_written text session
with_owed (Err fault) session = session

-- The companion took in an event, and what it then owes is in flight.
pub record Attends (old new : Lane) (event : CompanionEvent) : Type 0 where
  pub companion : new.companion ≡ stepped old.companion event
  pub ts : new.ts ≡ with_owed (owed old.companion event) old.ts

-- so it stands for one entry more that is of this event, if there was no want of memory
abbrev pub StandsOn : {T E : Type 0} → Result T E → Companion → Companion → CompanionEvent → Type 0
StandsOn result old new event = (history : History) (entry : Entry) → companions.StandsFor old history
    → IsEntryOf event entry history → OnOk result (companions.StandsFor new (entry ∷ history))

-- what it writes to a session of that kind that opens
abbrev pub greeting : Kind → Setup → Option (List ℕ)
greeting kind.Cii setup = None
greeting kind.Ts setup = Some (setup_text setup)

-- That is in flight.
abbrev pub Greets : Kind → Lane → Lane → Type 0
Greets k old new = new.ts ≡ with_written (greeting k old.companion.setup) old.ts

-- the history of a companion whose session of that kind was dialled, if that tells it something
abbrev pub IsDialled : Kind → History → History → Type 0
IsDialled kind.Cii older own = own ≡ older
IsDialled kind.Ts older own = (peer : ℕ) × (own ≡ Dialled session.Ts peer ∷ older)

-- the companion stands for it, if there was no want of memory
abbrev pub StandsGreeted : {T E : Type 0} → Result T E → Kind → Companion → Companion → Type 0
StandsGreeted result k old new = (older own : History) → companions.StandsFor old older
    → IsDialled k older own → OnOk result (companions.StandsFor new own)

-- ---- what a television does
-- what the television told the sessions of the companion with this number is in flight on them
pub record TakesUp (who : ℕ) (outs : List TvOut) (old new : Lane) : Type 0 where
  pub cii : new.cii ≡ with_news (news_of (peer_of who kind.Cii) outs) old.cii
  pub ts : new.ts ≡ with_news (news_of (peer_of who kind.Ts) outs) old.ts

-- what the television tells is for this companion, so it tells no other one anything
abbrev pub IsFor : TvOut → ℕ → Type 0
IsFor out who = (other : ℕ) → 1 ≤ other → other ≢ who
    → (news_of (peer_of other kind.Cii) (out ∷ []) ≡ []) × (news_of (peer_of other kind.Ts) (out ∷ []) ≡ [])

-- what it tells is in flight to all companions
abbrev pub AllTakeUp : List TvOut → List Lane → List Lane → Type 0
AllTakeUp outs old new = (who : ℕ) (before : Lane) → stored old who ≡ Some before
    → (after : Lane) × (stored new who ≡ Some after) × TakesUp who outs before after

-- The television took in an event, and what it tells the sessions of the companion with this number is in flight.
pub record IsPlayed (who : ℕ) (events : List TvEvent) (event : TvEvent) (old new : Lane) : Type 0 where
  pub cii : HasNews (peer_of who kind.Cii) events event old.cii new.cii
  pub ts : HasNews (peer_of who kind.Ts) events event old.ts new.ts

-- so it is with all companions
pub record AllArePlayed (events : List TvEvent) (event : TvEvent) (tv : Tv) (old new : List Lane) : Type 0 where
  pub stage : tvs.StandsFor tv.stage (event ∷ events)
  pub each : (who : ℕ) (before : Lane) → stored old who ≡ Some before
      → (after : Lane) × (stored new who ≡ Some after) × IsPlayed who events event before after

-- the television took in an event, or it tells why the player refuses that
abbrev pub PlaysBy : List TvEvent → TvEvent → Tv → Result (Unit {0}) WorldFault → Type 0
PlaysBy events event old result =
    tvs.StandsFor old.stage events → GivesBy (λ x. x) faults.Memory result (played events (Some event))

-- a fault that isn't want of memory leaves the television as it was
abbrev pub KeepsTv : Tv → Tv → WorldFault → Type 0
KeepsTv old new faults.Memory = Unit {0}
KeepsTv old new _ = new ≡ old
