-- How the values of a television's loop stand for what its calls did so far.
use Rattle.std.specs.Prelude.{◌≡◌, ◌<◌, ◌+◌, ℕ, List, [], ◌∷◌, drop, Bool, true, Option, None, Result, MatchResult}
use Rattle.css_model.specs.declared.Why.{Why}
use Rattle.css_model.specs.History.{History}
use Rattle.css_outside.specs.Outsides.{Counts, with_entries, clock_entries}
use Rattle.css_sessions.specs.Kept.{talk_of}
use Rattle.css_tv.specs.Stages.{Television}
use Rattle.css_tv.specs.Standing.{StandsFor, IsFresh, calls_of}
use Rattle.css_tv.specs.declared.event.TvOut.{TvOut}
use Rattle.css_tv.specs.declared.event.TvEvent.{TvEvent}
use Rattle.css_schedule.specs.declared.line.ScriptLine.{ScriptLine}
use Rattle.css_drive.specs.CompanionStanding.{Shown, shown}
use Rattle.css_drive.specs.Proper.{Due, IsProper}
use Rattle.css_drive.specs.TvProgress.{Place, Turned, Progress, settled, happened, is_due, open_after, addresses_in}
use Rattle.css_drive.specs.TvProgress.{progress_of, since}
use Rattle.css_drive.specs.TvDue.{TvRun, due, due_at, from_end, from_hang_ups, above}
use Rattle.css_drive.specs.TvRan.{AreNumbered, AreBelow, TvRan, CountsTvRun}
use Rattle.css_drive.specs.declared.driven.Driven.{Driven}
use Rattle.css_drive.specs.declared.turns.OnAir.{OnAir}
use Rattle.css_drive.specs.declared.turns.Turns.{Turns}

-- ---- the history
-- a run, and what the outside showed before it
pub record From : Type 0 where
  pub run : TvRun
  pub start : Shown

abbrev pub started : TvRun → Shown → From
started run start = record { run = run; start = start }

-- The calls told this history, which is proper, and which has come so far. None of them failed.
pub record Told (from : From) (now : Shown) (p : Progress) (h : History) : Type 0 where
  pub grew : now.told ≡ with_entries h from.start.told
  pub dials : now.counts.dial_faults ≡ from.start.counts.dial_faults
  pub faults : now.counts.faults ≡ from.start.counts.faults
  pub proper : IsProper (due from.run) h
  pub numbered : AreNumbered h
  pub below : AreBelow (now.counts.peers + 1) h
  pub progress : progress_of from.run h ≡ p

-- The run ended so.
pub record Stops (from : From) (now : Shown) (ended : Driven) : Type 0 where
  pub ran : TvRan from.run from.start.told now.told ended
  pub counted : CountsTvRun from.start.counts now.counts ended

-- ---- single calls
-- one that opens no session went well, and told these entries
pub record Adds (old new : Shown) (entries : History) : Type 0 where
  pub told : new.told ≡ with_entries entries old.told
  pub dials : new.counts.dial_faults ≡ old.counts.dial_faults
  pub faults : new.counts.faults ≡ old.counts.faults
  pub peers : new.counts.peers ≡ old.counts.peers

-- the clock told this reading, maybe after a sleep
abbrev pub IsRead : Why → Shown → Shown → ℕ → Type 0
IsRead why old new reading =
    (slept : Bool) × Adds old new (clock_entries why (record { reading = reading; slept = slept }))

-- one failed: a run that stood at it ended so
abbrev pub Fails : Shown → Shown → Driven → Type 0
Fails old new ended = (from : From) (p : Progress) (h : History) → Told from old p h → Stops from new ended

-- ---- the loop
-- how far a run has come whose loop has these values, at a place, with this owed, after these events
abbrev pub progress_at : TvRun → OnAir → Place → List TvOut → List TvEvent → Progress
progress_at run air place owed events = record {
  turns = air.turns;
  place = place;
  server = air.tv.server;
  events = events;
  owed = owed;
  lines = drop air.lines run.script;
  carried = air.lines;
  refused = None;
}

-- the sessions that are open after events
abbrev pub live_after : From → List TvEvent → List ℕ
live_after from events = open_after (addresses_in from.run.config) events

-- The television is the one after some events, and the run has come `to` by them.
pub record Airs (from : From) (now : Shown) (air : OnAir) (to : List TvEvent → Progress) : Type 0 where
  pub events : List TvEvent
  pub h : History
  pub history : Told from now (to events) h
  pub addresses : air.tv.stage.addresses ≡ addresses_in from.run.config
  pub stage : StandsFor air.tv.stage events

-- The loop is at this place, with nothing owed.
abbrev pub IsAt : Place → From → Shown → OnAir → Type 0
IsAt place from now air = Airs from now air (λ events. progress_at from.run air place [] events)

-- It is there once the lines are carried out that are due and wait for nothing.
abbrev pub Settles : Place → List TvOut → From → Shown → OnAir → Type 0
Settles place owed from now air =
    Airs from now air (λ events. settled (addresses_in from.run.config) (progress_at from.run air place owed events))

-- An event was told that the television is still to hear of.
pub record Happens (place : Place) (owed : List TvOut) (e : TvEvent) (from : From) (now : Shown) (air : OnAir)
    : Type 0 where
  pub airs : Airs from now air (λ events. let a = addresses_in from.run.config in
      settled a (happened a e (progress_at from.run air place owed events)))
  pub fresh : IsFresh e (calls_of (addresses_in from.run.config) airs.events).sessions

-- The loop is where `to` says of the open sessions what is due.
pub record Comes (to : OnAir → List ℕ → Due) (from : From) (now : Shown) (air : OnAir) : Type 0 where
  pub place : Place
  pub is_at : IsAt place from now air
  pub next : let live = live_after from is_at.events in due_at from.run live air.turns place ≡ to air live

-- the turn is over, or none was begun
abbrev pub at_end : OnAir → List ℕ → Due
at_end air live = from_end air.turns live

-- what is due by the open sessions after the last one that was asked or hung up
abbrev pub still : (Turns → List ℕ → List ℕ → Due) → Option ℕ → OnAir → List ℕ → Due
still f last air live = f air.turns live (above last live)

abbrev pub hanging_up : Turns → List ℕ → List ℕ → Due
hanging_up turns live left = from_hang_ups left

-- A line is the next one, and it is due.
pub record Carries (reading : ℕ) (line : ScriptLine) (from : From) (now : Shown) (air : OnAir) : Type 0 where
  pub settles : Settles (Turned reading) [] from now air
  pub next : drop air.lines from.run.script ≡ line ∷ drop (air.lines + 1) from.run.script
  pub is_due : is_due (since air.turns) reading line ≡ true

-- the lines that are due are carried out
abbrev pub IsTurned : From → Shown → OnAir → Type 0
IsTurned from now air = (reading : ℕ) × IsAt (Turned reading) from now air

-- the loop with another television
abbrev pub with_tv : OnAir → Television → OnAir
with_tv air tv = record { tv = tv; lines = air.lines; turns = air.turns }

-- the loop with one line more carried out
abbrev pub past_line : OnAir → OnAir
past_line air = record { tv = air.tv; lines = air.lines + 1; turns = air.turns }

-- ---- parts of the loop
-- a part leads from where `when` says to where `to` says, or the run ends
abbrev pub Leads : {O T : Type 0} → (O → Option History) → (O → Counts) → From
    → (when to : From → Shown → OnAir → Type 0) → O → OnAir → O → OnAir → Result T Driven → Type 0
Leads told counts from when to old was new is result =
    let now = shown (told new) (counts new) in
    when from (shown (told old) (counts old)) was → MatchResult result (λ _. to from now is) (Stops from now)

-- a part that has the television of the loop alone does so in every run
abbrev pub Plays : {O T : Type 0} → (O → Option History) → (O → Counts) → (when to : From → Shown → OnAir → Type 0)
    → O → Television → O → Television → Result T Driven → Type 0
Plays told counts when to old was new is result =
    (from : From) (air : OnAir) → Leads told counts from when to old (with_tv air was) new (with_tv air is) result

-- no peer above the greatest has a session
abbrev pub IsUnused : Shown → Television → Type 0
IsUnused now tv = (peer : ℕ) → now.counts.peers < peer → talk_of peer tv.stage.sessions.list ≡ None

-- the loop is at the end of a turn, in some run with this script
pub record IsReady (now : Shown) (air : OnAir) (script : List ScriptLine) : Type 0 where
  pub from : From
  pub script_so : from.run.script ≡ script
  pub ends : Comes at_end from now air
