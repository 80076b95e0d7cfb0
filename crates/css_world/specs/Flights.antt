-- A companion's session as a world keeps it: its phase, and the texts that are in flight on it.
use Rattle.std.specs.Prelude.{◌≡◌, ◌≤◌, ℕ, Bool, true, false, List, [], ◌∷◌, ◌++◌, length, reverse}
use Rattle.std.specs.Prelude.{Option, Some, None, Result, Ok, Err}
use Rattle.std.specs.List.{filter_map}
use Rattle.css_model.specs.History.{History}
use Rattle.css_sessions.specs.Told.{said_to}
use Rattle.css_tv.specs.Standing.{said_by}
use Rattle.css_tv.specs.declared.event.TvEvent.{TvEvent}
use Rattle.css_tv.specs.declared.event.TvOut.{TvOut}
use Rattle.css_meaning.specs.declared.fault.WorldFault.{WorldFault}
use Rattle.css_meaning.specs.declared.fault.WorldFault.TheVariants.{Absent}
use Rattle.css_meaning.specs.Sessions.{is_open, was_opened, heard_from, written_to, received_from, told_to, in_flight}
use Rattle.css_world.specs.declared.session.Phase.{Phase}
use Rattle.css_world.specs.declared.session.Phase.TheVariants.{Unopened, Open, Over}

-- The phase of a session, and the texts in flight on it, the oldest first: those of the television go down, and those
-- of the companion go up.
pub record Session : Type 0 where
  pub phase : Phase
  pub down : List (List ℕ)
  pub up : List (List ℕ)

-- a session that was never open
abbrev pub unopened : Session
unopened = record { phase = Unopened; down = []; up = [] }

-- ---- opening and closing
abbrev pub opened_from : Phase → Session → Result Session WorldFault
opened_from Unopened session = Ok (record { phase = Open; down = session.down; up = session.up })
opened_from Open session = Err Absent
opened_from Over session = Err Absent

-- the session opens, unless it is open or was open before
abbrev pub opened : Session → Result Session WorldFault
opened session = opened_from session.phase session

abbrev pub closed_from : Phase → Result Session WorldFault
closed_from Unopened = Err Absent
closed_from Open = Ok (record { phase = Over; down = []; up = [] })
closed_from Over = Err Absent

-- the session closes, if it is open, and the texts in flight on it are lost
abbrev pub closed : Session → Result Session WorldFault
closed session = closed_from session.phase

-- ---- texts
-- texts more at the end of a queue, if the session is open
abbrev pub grown : Phase → List (List ℕ) → List (List ℕ) → List (List ℕ)
grown Unopened queue texts = queue
grown Open queue texts = queue ++ texts
grown Over queue texts = queue

-- the session with more texts of the television in flight
abbrev pub with_news : List (List ℕ) → Session → Session
with_news texts session = record {
  phase = session.phase;
  down = grown session.phase session.down texts;
  up = session.up;
}

-- the session with one more text of the companion in flight, if there is one
abbrev pub with_written : Option (List ℕ) → Session → Session
with_written None session = session
with_written (Some text) session = record { phase = session.phase; down = session.down; up = session.up ++ text ∷ [] }

-- the first text in a queue, if the session is open
abbrev pub first_in : Phase → List (List ℕ) → Option (List ℕ)
first_in Unopened queue = None
first_in Open [] = None
first_in Open (text ∷ queue) = Some text
first_in Over queue = None

-- and the queue without it
abbrev pub rest_in : Phase → List (List ℕ) → List (List ℕ)
rest_in Unopened queue = queue
rest_in Open [] = []
rest_in Open (text ∷ queue) = queue
rest_in Over queue = queue

-- what the television told a peer
abbrev pub news_of : ℕ → List TvOut → List (List ℕ)
news_of peer outs = said_to peer (filter_map said_by outs)

-- ---- what a session stands for
-- a session's phase, by whether it is open, and whether it is open or was open before
abbrev pub phase_of : (live opened : Bool) → Phase
phase_of true opened = Open
phase_of false true = Over
phase_of false false = Unopened

-- the texts in flight, the oldest first; there are none unless the session is open
abbrev pub queue_of : Bool → (sent received : List (List ℕ)) → List (List ℕ)
queue_of true sent received = reverse (in_flight sent received)
queue_of false sent received = []

-- The session is open, or it was, and both ends told and heard these texts on it, of which the newest stands first. No
-- more came than were sent.
pub record SessionCarries (session : Session) (live opened : Bool)
    (told heard written received : List (List ℕ)) : Type 0 where
  pub phase : session.phase ≡ phase_of live opened
  pub down : session.down ≡ queue_of live told heard
  pub up : session.up ≡ queue_of live written received
  pub heard_of : length heard ≤ length told
  pub received_of : length received ≤ length written

-- The session stands for what happened at the television and what its companion did.
abbrev pub SessionStands : ℕ → List TvEvent → History → Session → Type 0
SessionStands peer events own session =
    SessionCarries session (is_open peer own) (was_opened peer own)
    (told_to peer events) (heard_from peer own) (written_to peer own) (received_from peer events)

-- what the television tells a session by an event is in flight on it too
pub record HasNews (peer : ℕ) (events : List TvEvent) (event : TvEvent) (old new : Session) : Type 0 where
  pub news : List (List ℕ)
  pub told : told_to peer (event ∷ events) ≡ reverse news ++ told_to peer events
  pub carried : new ≡ with_news news old
