-- What a television shows and whom it tells, and what always holds of it.
use Rattle.std.specs.Prelude.{◌≡◌, ◌≤◌, ℕ, length, Option, Some, None, IsSome, ⊤}
use Rattle.std.specs.Str.{IsUtf8}
use Rattle.css_player.specs.Player.{Player, Segment}
use Rattle.css_player.specs.Segments.{numbered}
use Rattle.css_server.specs.Tickets.{Server}
use Rattle.css_sessions.specs.Kept.{Kept}
use Rattle.css_tv.specs.States.{published_state}
use Rattle.css_tv.specs.declared.state.Addresses.{Addresses}

pub record Stage : Type 0 where
  pub addresses : Addresses
  pub player : Player
  pub sessions : Kept

-- a television: its end of the wall clock beside what it shows and tells
pub record Television : Type 0 where
  pub server : Server
  pub stage : Stage

-- how many sessions can be open
abbrev pub max_sessions : ℕ
max_sessions = 256

-- what is shown is one of the programmes
abbrev pub IsShownOf : Player → Option Segment → Type 0
IsShownOf p None = ⊤
IsShownOf p (Some s) = IsSome (numbered p.programmes s.programme)

abbrev pub IsShown : Player → Type 0
IsShown p = IsShownOf p p.segment

pub record IsStage (stage : Stage) : Type 0 where
  pub wc_utf8 : IsUtf8 stage.addresses.wc_url
  pub ts_utf8 : IsUtf8 stage.addresses.ts_url
  pub current : stage.sessions.state ≡ published_state stage.addresses stage.player
  pub few : length stage.sessions.list ≤ max_sessions
  pub shown : IsShown stage.player
