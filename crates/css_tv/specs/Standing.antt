-- A television after a list of events that it accepted, the newest first: the player's calls and the sessions' calls
-- are functions of them.
use Rattle.std.specs.Prelude.{◌≡◌, ◌<◌, ◌⊎◌, ℕ, List, [], ◌∷◌, ◌++◌, Option, Some, None, Result, Ok, Err, MatchResult}
use Rattle.std.specs.Prelude.{OnOk, ⊤}
use Rattle.std.specs.List.{filter_map}
use Rattle.std.specs.Str.{IsUtf8}
use Rattle.css_player.specs.Player.{Player}
use Rattle.css_player.specs.Segments.{idle}
use Rattle.css_player.specs.Events.{Event as PlayerCall, player_of}
use Rattle.css_player.specs.Events.{StandsFor as PlayerStandsFor}
use Rattle.css_sessions.specs.declared.session.Said.{Said}
use Rattle.css_sessions.specs.Kept.{Event as SessionsCall, talk_of}
use Rattle.css_sessions.specs.Told.{StandsFor as SessionsStandFor, IsTold as AreSaid, sessions_of, life_of, texts_of}
use Rattle.css_tv.specs.Stages.{Stage}
use Rattle.css_tv.specs.Outcomes.{Outcome, outcome, published, stage_after, outs}
use Rattle.css_tv.specs.declared.state.Addresses.{Addresses}
use Rattle.css_tv.specs.declared.event.TvEvent.{TvEvent}
use Rattle.css_tv.specs.declared.event.TvEvent.TheVariants as event
use Rattle.css_tv.specs.declared.event.TvOut.{TvOut}
use Rattle.css_tv.specs.declared.event.TvOut.TheVariants as out
use Rattle.css_tv.specs.declared.fault.TvFault.{TvFault}
use Rattle.css_tv.specs.declared.fault.TvFault.TheVariants as fault

pub record Calls : Type 0 where
  pub player : List PlayerCall
  pub sessions : List SessionsCall

-- the calls with those of an outcome
abbrev pub with_outcome : Result Outcome TvFault → Calls → Calls
with_outcome (Err e) calls = calls
with_outcome (Ok o) calls = record { player = o.asked ++ calls.player; sessions = o.called ++ calls.sessions }

-- what an event adds to the calls before it
abbrev pub with_event : Addresses → TvEvent → Calls → Calls
with_event a e calls = with_outcome (outcome a e (player_of calls.player) (sessions_of calls.sessions)) calls

-- The player's and the sessions' calls of events. First the state with nothing shown is published.
abbrev pub calls_of : Addresses → List TvEvent → Calls
calls_of a [] = record { player = []; sessions = published a idle ∷ [] }
calls_of a (e ∷ h) = with_event a e (calls_of a h)

pub record StandsFor (stage : Stage) (h : List TvEvent) : Type 0 where
  pub player : PlayerStandsFor stage.player (calls_of stage.addresses h).player
  pub sessions : SessionsStandFor stage.sessions (calls_of stage.addresses h).sessions

-- a text of these bytes is UTF-8, a reading is in range, and the peer that opens has no session
abbrev pub IsEvent : TvEvent → Stage → Type 0
IsEvent (event.Programme content_id) stage = IsUtf8 content_id
IsEvent (event.AddTimeline n selector rate base) stage = IsUtf8 selector
IsEvent (event.Viewer command reading) stage = reading < 4294967296000000000
IsEvent (event.Opened peer kind) stage = talk_of peer stage.sessions.list ≡ None
IsEvent (event.Heard peer bytes) stage = ⊤
IsEvent (event.Closed peer) stage = ⊤

-- a peer's number is never used again
abbrev pub IsFresh : TvEvent → List SessionsCall → Type 0
IsFresh (event.Programme content_id) h = ⊤
IsFresh (event.AddTimeline n selector rate base) h = ⊤
IsFresh (event.Viewer command reading) h = ⊤
IsFresh (event.Opened peer kind) h = life_of peer h ≡ None
IsFresh (event.Heard peer bytes) h = ⊤
IsFresh (event.Closed peer) h = ⊤

-- the texts among what is told
abbrev pub said_by : TvOut → Option Said
said_by (out.Say peer text) = Some (record { peer = peer; text = text })
said_by (out.HangUp peer) = None

-- each session was told what it was to be told
abbrev pub IsTold : List TvOut → List SessionsCall → Type 0
IsTold outs h = AreSaid (filter_map said_by outs) h

-- ---- the contract of a step
-- the stage and what is told after an outcome
pub record IsAfter (old new : Stage) (before after : List TvOut) (o : Outcome) : Type 0 where
  pub stage : new ≡ stage_after o old
  pub out : after ≡ before ++ outs o old.sessions

abbrev pub IsAfterBy : Stage → Stage → List TvOut → List TvOut → Result Outcome TvFault → Type 0
IsAfterBy old new before after (Err e) = ⊥
IsAfterBy old new before after (Ok o) = IsAfter old new before after o

-- The event has the expected outcome. Or it is refused with the expected fault or for want of memory, and all is as it
-- was.
abbrev pub Steps : {T : Type 0} → Result T TvFault → Stage → Stage → List TvOut → List TvOut → Result Outcome TvFault
    → Type 0
Steps result old new before after expected = MatchResult result (λ _. IsAfterBy old new before after expected)
    (λ e. (new ≡ old) × (after ≡ before) × ((expected ≡ Err e) ⊎ (e ≡ fault.Memory)))

-- The player and the sessions stand for their calls with those of the outcome.
pub record Grows (fresh : List SessionsCall → Type 0) (old new : Stage) (o : Outcome) : Type 0 where
  pub player : (h : List PlayerCall) → PlayerStandsFor old.player h → PlayerStandsFor new.player (o.asked ++ h)
  pub sessions : (h : List SessionsCall) → SessionsStandFor old.sessions h → fresh h
      → SessionsStandFor new.sessions (o.called ++ h)

abbrev pub GrowsBy : (List SessionsCall → Type 0) → Stage → Stage → Result Outcome TvFault → Type 0
GrowsBy fresh old new (Err e) = ⊤
GrowsBy fresh old new (Ok o) = Grows fresh old new o

-- whatever calls of the sessions came before
abbrev pub Any : List SessionsCall → Type 0
Any h = ⊤

-- after an accepted event the stage stands for one event more
abbrev pub Stands : {T : Type 0} → Result T TvFault → Stage → Stage → TvEvent → Type 0
Stands result old new e =
    OnOk result ((h : List TvEvent) → StandsFor old h → IsFresh e (calls_of old.addresses h).sessions
    → StandsFor new (e ∷ h))

-- and each session was told what it was to be told by then
abbrev pub Tells : {T : Type 0} → Result T TvFault → Stage → List TvOut → List TvOut → TvEvent → Type 0
Tells result old before after e =
    OnOk result ((h : List TvEvent) → StandsFor old h → IsFresh e (calls_of old.addresses h).sessions
    → IsTold before (calls_of old.addresses h).sessions → IsTold after (calls_of old.addresses (e ∷ h)).sessions)

-- what a stage shows after events
abbrev pub player_after : Addresses → List TvEvent → Player
player_after a h = player_of (calls_of a h).player

-- the texts of a peer's session after events, newest first
abbrev pub texts_after : Addresses → ℕ → List TvEvent → List (List ℕ)
texts_after a peer h = texts_of peer (calls_of a h).sessions
