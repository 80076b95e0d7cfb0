-- What a visit told an accepted session, beside what the session was to be told by what the relay published.
use Rattle.std.specs.Prelude.{◌≡◌, ◌≤◌, ℕ, ◌==◌, ◌&&◌, ◌||◌, List, [], ◌∷◌, ◌++◌, length, Bool, true, false}
use Rattle.std.specs.Prelude.{if◌then◌else◌, Option, Some, None, option_map, unwrap_or}
use Rattle.css_model.specs.History.{Entry, History, Accepted, Heard}
use Rattle.css_cii.specs.States.{empty}
use Rattle.css_cii.specs.declared.state.State.{State}
use Rattle.css_sessions.specs.Told.{cii_texts}
use Rattle.css_companion.specs.declared.fault.CompanionFault.{CompanionFault}
use Rattle.css_relay.specs.Relays.{state_of, wc_url_of, relayed_state}
use Rattle.css_drive.specs.Proper.{Ends}
use Rattle.css_drive.specs.TvRan.{AreNumbered}
use Rattle.css_drive.specs.TvTold.{sent_to, is_gone, lost}
use Rattle.css_drive.specs.declared.driven.Driven.{Driven}
use Rattle.css_drive_relay.specs.Places.{Place, Welcomed, is_kept, progress_of, refusal_of}
use Rattle.css_drive_relay.specs.Due.{due, IsProperRelay}
use Rattle.css_drive_relay.specs.declared.plan.Plan.{Plan}

-- ---- what the relay publishes
-- the state that it tells after a history: the television's, with the relay's address for the wall clock
abbrev pub relayed : Plan → History → State
relayed plan history = relayed_state (wc_url_of plan.run.host plan.run.port) (state_of history)

-- a state, unless the text is refused that makes it
abbrev pub unless_refused : Option CompanionFault → State → Option State
unless_refused None state = Some state
unless_refused (Some fault) state = None

-- a text that comes as the television is asked for one publishes what the relay tells after it
abbrev pub published_at : Plan → ℕ → List ℕ → History → Place → Option State
published_at plan peer bytes older (Welcomed television) =
    unless_refused (refusal_of (Some bytes) older) (relayed plan (Heard peer bytes ∷ older))
published_at plan peer bytes older _ = None

-- the state that is published with an entry
abbrev pub published_by : Plan → Entry → History → Option State
published_by plan (Heard peer bytes) older = published_at plan peer bytes older (progress_of plan older).place
published_by plan _ older = None

-- the state that was published last, and the empty one where none was
abbrev pub last_published : Plan → History → State
last_published plan [] = empty
last_published plan (entry ∷ older) = unwrap_or (published_by plan entry older) (last_published plan older)

-- ---- what a session is to be told
-- the state that was published last as a session was opened, and those published since, the newest first
pub record SessionStates : Type 0 where
  pub opening : State
  pub later : List State

-- one more, where one was published
abbrev pub with_state : Option State → Option SessionStates → Option SessionStates
with_state None states = states
with_state (Some state) states =
    option_map (λ (s : SessionStates). record { opening = s.opening; later = state ∷ s.later }) states

-- what was published, where the session is open
abbrev pub while_open : Option State → Bool → Option State
while_open None is_open = None
while_open (Some state) true = Some state
while_open (Some state) false = None

-- whether a peer is among these
abbrev pub has : ℕ → List ℕ → Bool
has peer [] = false
has peer (other ∷ peers) = (other == peer) || has peer peers

-- whether a peer's session is open
abbrev pub is_open : Plan → ℕ → History → Bool
is_open plan peer history = has peer (progress_of plan history).facts.peers

-- the states of a peer's session after an entry: it begins where the session was accepted and is kept
abbrev pub states_after : Plan → ℕ → Entry → History → Option SessionStates → Option SessionStates
states_after plan peer (Accepted other kind) older states =
    if (other == peer) && is_kept kind (length (progress_of plan older).facts.peers)
    then Some (record { opening = last_published plan older; later = [] })
    else states
states_after plan peer (Heard other bytes) older states =
    with_state (while_open (published_by plan (Heard other bytes) older) (is_open plan peer older)) states
states_after plan peer _ older states = states

-- the states of a peer's session, if one was opened
abbrev pub states_of : Plan → ℕ → History → Option SessionStates
states_of plan peer [] = None
states_of plan peer (entry ∷ older) = states_after plan peer entry older (states_of plan peer older)

abbrev pub texts_told : Option SessionStates → List (List ℕ)
texts_told None = []
texts_told (Some states) = cii_texts states.opening states.later

-- The texts that a peer's session is to be told, the newest first: the state at its opening in full, and then what is
-- new in each state that was published while it was open.
abbrev pub to_tell : Plan → ℕ → History → List (List ℕ)
to_tell plan peer history = texts_told (states_of plan peer history)

-- ---- what it was told
-- The texts that were sent to a peer are the first ones of those that its session was to be told, and all of these but
-- for one at most. Where the run's end is due, only a text that was told as gone is unsent.
pub record TellsSession (plan : Plan) (history : History) (peer : ℕ) : Type 0 where
  pub unsent : List (List ℕ)
  pub first : to_tell plan peer history ≡ unsent ++ sent_to peer history
  pub few : length unsent ≤ 1
  pub ended : (driven : Driven) → due plan history ≡ Ends driven → length unsent ≤ lost (is_gone peer history)

-- Every run tells its sessions so.
abbrev pub SessionsAreTold : Type 0
SessionsAreTold = (plan : Plan) (history : History) → IsProperRelay plan history → AreNumbered history → (peer : ℕ)
    → TellsSession plan history peer
