-- The ranges of what a line tells.
use Rattle.std.specs.Prelude.{ℕ, ◌<◌, ◌^◌, ⊤, unsigned_abs, IfSome}
use Rattle.std.specs.Str.{IsUtf8}
use Rattle.css_num.specs.Rates.{IsTickRate}
use Rattle.css_num.specs.Spans.{Interval}
use Rattle.css_model.specs.WallClock.{IsAnswer}
use Rattle.css_model.specs.declared.Failure.{Failure}
use Rattle.css_model.specs.declared.Failure.TheVariants as failure
use Rattle.css_cii.specs.Texts.{EachIn, IsUtf8State, RatesAreInRange}
use Rattle.css_tsmsg.specs.Controls.{IsInRange}
use Rattle.css_watch_lines.specs.Lines.{Line, Visit, Dial, StateTold, ControlTold, Unread, Answered, Refused}
use Rattle.css_watch_lines.specs.Lines.{SleptAt, Known, Unknown, Ended, EndedBy, EndedBetween}
use Rattle.css_watch_lines.specs.declared.known.Known.{Known as Ticking}
use Rattle.css_watch_lines.specs.declared.known.Ticks.{Ticks}

-- the ends of a span fit in 128 bits
pub record EndsFit (span : Interval) : Type 0 where
  pub lo : unsigned_abs span.lo < 2 ^ 128
  pub hi : unsigned_abs span.hi < 2 ^ 128

-- so do ticks
pub record TicksFit (ticks : Ticks) : Type 0 where
  pub lo : unsigned_abs ticks.lo < 2 ^ 128
  pub hi : unsigned_abs ticks.hi < 2 ^ 128

-- the number and the reading of a report or a visit
pub record AreCounted (count reading : ℕ) : Type 0 where
  pub few : count < 10 ^ 18
  pub early : reading < 2 ^ 64

-- an HTTP status is a number of 16 bits
abbrev pub StatusFits : Failure → Type 0
StatusFits (failure.HttpStatus status) = status < 2 ^ 16
StatusFits _ = ⊤

-- what a report with ticks tells
pub record IsTicking (told : Ticking) : Type 0 where
  pub ticks : TicksFit told.ticks
  pub agreed : EndsFit told.agreed
  pub wall : EndsFit told.wall
  pub error : told.error < 2 ^ 32
  pub rate : IsTickRate told.rate
  pub speed : unsigned_abs told.speed < 2 ^ 32

-- texts are UTF-8, and each number is in its range
abbrev pub IsTellable : Line → Type 0
IsTellable (Visit count reading) = AreCounted count reading
IsTellable (Dial kind failure) = IfSome failure StatusFits
IsTellable (StateTold state) = IsUtf8State state × EachIn RatesAreInRange state.timelines
IsTellable (ControlTold control) = IsInRange control
IsTellable (Unread fault text) = IsUtf8 text
IsTellable (Answered answer kind landed width) =
    IsAnswer answer × (kind < 2 ^ 8) × (landed < 2 ^ 64) × (unsigned_abs width < 2 ^ 128)
IsTellable (Refused landing bytes landed) = landed < 2 ^ 64
IsTellable (SleptAt reading) = reading < 2 ^ 64
IsTellable (Known count reading told) = AreCounted count reading × IsTicking told
IsTellable (Unknown count reading cause detail) = AreCounted count reading × IsUtf8 detail
IsTellable (Ended count why) = (count < 10 ^ 18) × IsUtf8 why
IsTellable (EndedBy count why text) = (count < 10 ^ 18) × IsUtf8 why × IsUtf8 text
IsTellable (EndedBetween count why between) =
    (count < 10 ^ 18) × IsUtf8 why × IsAnswer between.above × IsAnswer between.below
