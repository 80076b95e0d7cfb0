-- What has come to a companion of what the television of a schedule published.
use Rattle.std.specs.Prelude.{ℕ, ℤ, pos, ◌-◌, ◌+ℤ◌, ◌≡◌, ◌≢◌, ◌⊎◌, true, List}
use Rattle.std.specs.Prelude.{[], length, drop, Option, Some, None, Ok, IfSome}
use Rattle.std.specs.Option.{option_and_then}
use Rattle.css_cii.specs.declared.state.State.{State}
use Rattle.css_tsmsg.specs.declared.setup.Setup.{Setup}
use Rattle.css_player.specs.Player.{Player, Segment, Track}
use Rattle.css_player.specs.Segments.{present, track_of, position_at, rate_for}
use Rattle.css_num.specs.declared.protocol.Kind.TheVariants as kind
use Rattle.css_sessions.specs.Offsets.{control_for}
use Rattle.css_sessions.specs.ReadBack.{cii_states}
use Rattle.css_sessions.specs.Told.{Life, CiiLife, Unset, TsLife, Lived, life_of}
use Rattle.css_tv.specs.Standing.{calls_of, player_after}
use Rattle.css_companion.specs.Meanings.{state_of}
use Rattle.css_companion.specs.Published.{latest, TellsStates}
use Rattle.css_companion.specs.Reports.{assigned_by, timing_by}
use Rattle.css_schedule.specs.declared.header.Header.{Header}
use Rattle.css_meaning.specs.Sessions.{addresses, peer_of, setup_of, is_open}
use Rattle.css_meaning.specs.Sessions.{heard_from, received_from, told_to, in_flight}
use Rattle.css_meaning.specs.Happened.{Numbered, events_of, history_of}
use Rattle.css_meaning.specs.Verdicts.{assigned_at}

-- ---- the state of the content
-- the published states that a session was told, the newest first
abbrev pub states_of_life : Life → List State
states_of_life (CiiLife s ss) = cii_states s ss
states_of_life Unset = []
states_of_life (TsLife u p ps) = []

abbrev pub states_of_lived : Option Lived → List State
states_of_lived None = []
states_of_lived (Some lived) = states_of_life lived.life

-- the published states that the television told the CII session of companion `who`, one in each text
abbrev pub states_told : ℕ → Header → List Numbered → List State
states_told who header lines =
    states_of_lived (life_of (peer_of who kind.Cii) (calls_of addresses (events_of header lines)).sessions)

-- those of them whose text came: the first ones, as many as the companion heard texts
abbrev pub states_come : ℕ → Header → List Numbered → List State
states_come who header lines =
    drop (length (states_told who header lines) - length
    (heard_from (peer_of who kind.Cii) (history_of who header lines)))
    (states_told who header lines)

-- The texts that came tell these states, and the state of companion `who` is the last of them: after the first k texts
-- it is the k-th published state of its session.
pub record IsToldInOrder (who : ℕ) (header : Header) (lines : List Numbered) : Type 0 where
  pub tells : TellsStates (states_come who header lines) (history_of who header lines)
  pub state : state_of (history_of who header lines) ≡ latest (states_come who header lines)

-- ---- the position
-- Both sessions of companion `who` are open, its setup has come, and no text of the television is in flight.
pub record HasAllCome (who : ℕ) (header : Header) (lines : List Numbered) : Type 0 where
  pub cii_open : is_open (peer_of who kind.Cii) (history_of who header lines) ≡ true
  pub ts_open : is_open (peer_of who kind.Ts) (history_of who header lines) ≡ true
  pub set_up : received_from (peer_of who kind.Ts) (events_of header lines) ≢ []
  pub states : in_flight (told_to (peer_of who kind.Cii) (events_of header lines))
      (heard_from (peer_of who kind.Cii) (history_of who header lines)) ≡ []
  pub controls : in_flight (told_to (peer_of who kind.Ts) (events_of header lines))
      (heard_from (peer_of who kind.Ts) (history_of who header lines)) ≡ []

-- the position that the published control of a player assigns to a value of the wall clock, for this setup
abbrev pub published_tick : Setup → Player → ℕ → Option ℤ
published_tick setup player wall =
    assigned_by (timing_by (Ok (control_for setup player)) (rate_for setup.selector player)) wall

-- The position that is shown on a timeline is this tick, or the one after it.
abbrev pub IsShownAt : Setup → Player → ℕ → ℤ → Type 0
IsShownAt setup player wall tick = (segment : Segment) (track : Track) → player.segment ≡ Some segment
    → option_and_then (track_of setup.selector) (present player) ≡ Some track
    → (position_at track segment (pos wall) ≡ tick) ⊎ (position_at track segment (pos wall) ≡ tick +ℤ pos 1)

-- The position that companion `who` assigns to a value of the wall clock is the one that the television's published
-- control assigns to it. It is the position that is shown then, or one tick less.
pub record IsInStep (who : ℕ) (header : Header) (lines : List Numbered) (wall : ℕ) : Type 0 where
  pub published : assigned_at who header lines wall
      ≡ published_tick (setup_of who header) (player_after addresses (events_of header lines)) wall
  pub shown : IfSome (assigned_at who header lines wall)
      (IsShownAt (setup_of who header) (player_after addresses (events_of header lines)) wall)
