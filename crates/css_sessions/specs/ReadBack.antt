-- What a companion reads of a session's texts: the changes of the states that it is told, or the controls.
use Rattle.std.specs.Prelude.{◌≡◌, ℕ, false, if◌then◌else◌, ⊤}
use Rattle.std.specs.Prelude.{List, [], ◌∷◌, map, reverse, take, Option, Some, None, Ok}
use Rattle.css_num.specs.declared.control.Control.{Control}
use Rattle.css_player.specs.Player.{Player}
use Rattle.css_cii.specs.declared.change.Change.{Change}
use Rattle.css_cii.specs.declared.state.State.{State}
use Rattle.css_cii.specs.Messages.{message_of}
use Rattle.css_cii.specs.States.{difference, full_change, is_empty, IsSession}
use Rattle.css_tsmsg.specs.Controls.{control_of}
use Rattle.css_tsmsg.specs.declared.setup.Setup.{Setup}
use Rattle.css_sessions.specs.Offsets.{control_for}
use Rattle.css_sessions.specs.Kept.{same_control}
use Rattle.css_sessions.specs.Told.{Life, CiiLife, Unset, TsLife, Lived, latest, cii_texts, ts_texts}

-- the published states that a CII session was told, newest first: each that differs from the one before
abbrev pub cii_states : State → List State → List State
cii_states s [] = s ∷ []
cii_states s (state ∷ ss) =
    if is_empty (difference (latest s ss) state) then cii_states s ss else state ∷ cii_states s ss

-- and the change by which it was told each of them
abbrev pub cii_changes : State → List State → List Change
cii_changes s [] = full_change s ∷ []
cii_changes s (state ∷ ss) =
    if is_empty (difference (latest s ss) state) then cii_changes s ss
    else difference (latest s ss) state ∷ cii_changes s ss

-- the published controls that a TS session was told since its setup, newest first, equal neighbours once
abbrev pub ts_controls : Setup → Player → List Player → List Control
ts_controls u p [] = control_for u p ∷ []
ts_controls u p (player ∷ ps) =
    if same_control (control_for u (latest p ps)) (control_for u player) then ts_controls u p ps
    else control_for u player ∷ ts_controls u p ps

-- each text of a CII session reads as the change that it was written for; the first k of these changes are the
-- messages of a connection that tells the first k states; the newest state is the one published last
pub record ReadsAsStates (s : State) (ss : List State) : Type 0 where
  pub texts : map message_of (cii_texts s ss) ≡ map Ok (cii_changes s ss)
  pub session : (k : ℕ) → IsSession (take k (reverse (cii_states s ss))) (take k (reverse (cii_changes s ss)))
  pub newest : (other : State) → latest other (cii_states s ss) ≡ latest s ss

-- each text of a TS session reads as the control that it was written for; the newest is the one published last
pub record ReadsAsControls (u : Setup) (p : Player) (ps : List Player) : Type 0 where
  pub texts : map control_of (ts_texts u p ps) ≡ map Ok (ts_controls u p ps)
  pub newest : (other : Control) → latest other (ts_controls u p ps) ≡ control_for u (latest p ps)

-- the texts of a session read as what they were written for
abbrev pub IsReadBack : Life → Type 0
IsReadBack (CiiLife s ss) = ReadsAsStates s ss
IsReadBack Unset = ⊤
IsReadBack (TsLife u p ps) = ReadsAsControls u p ps

-- so do those of a peer's session, where it had one
abbrev pub AreReadBack : Option Lived → Type 0
AreReadBack None = ⊤
AreReadBack (Some l) = IsReadBack l.life

-- the state that a CII session was told last is this one
abbrev pub IsCurrentLife : State → Life → Type 0
IsCurrentLife state (CiiLife s ss) = latest s ss ≡ state
IsCurrentLife state Unset = ⊤
IsCurrentLife state (TsLife u p ps) = ⊤

-- so it is of a peer's session, while that is open
abbrev pub IsCurrent : State → Option Lived → Type 0
IsCurrent state None = ⊤
IsCurrent state (Some l) = l.over ≡ false → IsCurrentLife state l.life
