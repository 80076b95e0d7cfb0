-- What the calls on sessions and the laws promise, by name.
use Rattle.std.specs.Prelude.{◌≡◌, ◌⊎◌, ◌≤◌, ℕ, ℤ, List, ◌∷◌, ◌++◌, map, length, Option, None, Some, true, Ok, IsOk}
use Rattle.std.specs.Prelude.{IsSome}
use Rattle.std.specs.List.{filter_map}
use Rattle.css_num.specs.declared.control.Control.TheVariants.{Available, Unavailable}
use Rattle.css_player.specs.Player.{Player}
use Rattle.css_tsmsg.specs.Setups.{setup_of}
use Rattle.css_tsmsg.specs.Presentations.{presentation_of}
use Rattle.css_tsmsg.specs.declared.setup.Setup.{Setup}
use Rattle.css_tsmsg.specs.declared.bound.Presentation.{Presentation}
use Rattle.css_window.specs.Demand.{Demand}
use Rattle.css_sessions.specs.declared.session.Said.{Said}
use Rattle.css_sessions.specs.declared.session.Session.{Session}
use Rattle.css_sessions.specs.declared.session.Talk.{Talk}
use Rattle.css_sessions.specs.declared.session.SessionFault.{SessionFault}
use Rattle.css_sessions.specs.declared.session.SessionFault.TheVariants as fault
use Rattle.css_sessions.specs.Offsets.{control_for, window_from}
use Rattle.css_sessions.specs.Kept.{Event, SetUp, Presented, Kept, step_of, set_up_in, windowed_at, renewed, news}
use Rattle.css_sessions.specs.Told.{StandsFor, IsAccepted, IsTold, own, said_to}

-- ---- after a call
-- the call appended what it says
abbrev pub Says : Event → Kept → List Said → List Said → Type 0
Says e old before after = after ≡ before ++ (step_of e old).said

-- the sessions stand for one accepted call more
abbrev pub StandsAfter : Event → Kept → Kept → Type 0
StandsAfter e old new = (h : List Event) → StandsFor old h → StandsFor new (e ∷ h)

-- so they do where that call is accepted
abbrev pub StandsWhereAccepted : Event → Kept → Kept → Type 0
StandsWhereAccepted e old new = (h : List Event) → StandsFor old h → IsAccepted e h → StandsFor new (e ∷ h)

-- with what the call appended, each session was told all that it was to be told
abbrev pub ToldAfter : Event → Kept → List Said → List Said → Type 0
ToldAfter e old before after = (h : List Event) → StandsFor old h → IsTold before h → IsTold after (e ∷ h)

-- so it was where that call is accepted
abbrev pub ToldWhereAccepted : Event → Kept → List Said → List Said → Type 0
ToldWhereAccepted e old before after =
    (h : List Event) → StandsFor old h → IsAccepted e h → IsTold before h → IsTold after (e ∷ h)

-- a call that tells nothing leaves nothing to tell
abbrev pub StillTold : Event → Type 0
StillTold e = (h : List Event) (said : List Said) → IsTold said h → IsTold said (e ∷ h)

-- so does one on sessions that are these
abbrev pub StillToldFrom : Event → Kept → Type 0
StillToldFrom e old = (h : List Event) (said : List Said) → StandsFor old h → IsTold said h → IsTold said (e ∷ h)

-- ---- after a setup that the bytes tell
abbrev pub KeepsSetup : List ℕ → ℕ → Player → Kept → Kept → Type 0
KeepsSetup bytes peer player old new =
    (setup : Setup) → setup_of bytes ≡ Ok setup → new ≡ (step_of (SetUp peer setup player) old).kept

abbrev pub SaysControl : List ℕ → ℕ → Player → Kept → List Said → List Said → Type 0
SaysControl bytes peer player old before after =
    (setup : Setup) → setup_of bytes ≡ Ok setup → after ≡ before ++ (step_of (SetUp peer setup player) old).said

abbrev pub StandsSetUp : List ℕ → ℕ → Player → Kept → Kept → Type 0
StandsSetUp bytes peer player old new =
    (h : List Event) (setup : Setup) → setup_of bytes ≡ Ok setup
    → StandsFor old h → StandsFor new (SetUp peer setup player ∷ h)

abbrev pub ToldSetUp : List ℕ → ℕ → Player → Kept → List Said → List Said → Type 0
ToldSetUp bytes peer player old before after =
    (h : List Event) (setup : Setup) → setup_of bytes ≡ Ok setup
    → StandsFor old h → IsTold before h → IsTold after (SetUp peer setup player ∷ h)

-- ---- after a presentation that the bytes tell
-- the session has its setup, and the bytes tell a presentation
abbrev pub IsPresented : List ℕ → Option Talk → Type 0
IsPresented bytes talk = (set_up_in talk ≡ Some true) × IsOk (presentation_of bytes)

abbrev pub KeepsWindow : List ℕ → ℕ → Player → Kept → Kept → Type 0
KeepsWindow bytes peer player old new =
    (told : Presentation) → presentation_of bytes ≡ Ok told → new ≡ (step_of (Presented peer told player) old).kept

abbrev pub StandsPresented : List ℕ → ℕ → Player → Kept → Kept → Type 0
StandsPresented bytes peer player old new =
    (h : List Event) (told : Presentation) → presentation_of bytes ≡ Ok told
    → StandsFor old h → StandsFor new (Presented peer told player ∷ h)

abbrev pub StillToldPresented : List ℕ → ℕ → Player → Type 0
StillToldPresented bytes peer player =
    (h : List Event) (shown : Presentation) (said : List Said) → presentation_of bytes ≡ Ok shown
    → IsTold said h → IsTold said (Presented peer shown player ∷ h)

-- ---- refusals
-- the fault is the expected one, or want of memory
abbrev pub IsFault : Option SessionFault → SessionFault → Type 0
IsFault expected e = (expected ≡ Some e) ⊎ (e ≡ fault.Memory)

-- an opening is refused where 256 sessions are open, or for want of memory
abbrev pub IsOpeningFault : List Session → SessionFault → Type 0
IsOpeningFault ss e = ((e ≡ fault.Full) × (256 ≤ length ss)) ⊎ (e ≡ fault.Memory)

-- ---- laws
-- two runs that agree in what bears on a peer's session told it equal texts
abbrev pub EqualTexts : ℕ → List Event → List Event → List Said → List Said → Type 0
EqualTexts peer h k one other =
    IsTold one h → IsTold other k → own peer h ≡ own peer k → said_to peer one ≡ said_to peer other

-- where the control of a setup is available, a presentation gives a window
abbrev pub GivesWindow : Presentation → Setup → Player → Type 0
GivesWindow q u p = (c : ℤ) (w : ℕ) (v : ℤ) → control_for u p ≡ Available c w v → IsSome (window_from q u p)

-- elsewhere it gives none
abbrev pub GivesNone : Presentation → Setup → Player → Type 0
GivesNone q u p = control_for u p ≡ Unavailable → window_from q u p ≡ None

-- a change of windows: from a session's setup and its window to its new window
abbrev pub Windowing : Type 0
Windowing = Setup → Option Demand → Option Demand

-- a window may be put in its place before or after what was published is kept
abbrev pub WindowsCommute : Windowing → Player → Type 0
WindowsCommute f p =
    (peer : ℕ) (ss : List Session)
    → map (renewed p) (map (windowed_at peer f) ss) ≡ map (windowed_at peer f) (map (renewed p) ss)

-- and before or after what is told is written
abbrev pub NewsCommute : Option (List ℕ) → Windowing → Player → Type 0
NewsCommute change f p =
    (peer : ℕ) (ss : List Session)
    → filter_map (news change p) (map (windowed_at peer f) ss) ≡ filter_map (news change p) ss
