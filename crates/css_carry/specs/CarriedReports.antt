-- A report of a watch, carried on to a later reading of the companion's clock.
use Rattle.std.specs.Prelude.{◌≡◌, ℕ, pos, ◌≤◌, ◌^◌, unsigned_abs, List, Some, Result}
use Rattle.css_agree.specs.Agreements.{IsTruthful}
use Rattle.css_agree.specs.Carrying.{carried}
use Rattle.css_companion.specs.Meanings.{timing_after, assigned_after}
use Rattle.css_companion.specs.Reports.{report_by, HasTickOf}
use Rattle.css_companion.specs.declared.knowledge.Timing.{Timing}
use Rattle.css_companion.specs.declared.report.Cause.{Cause}
use Rattle.css_companion.specs.declared.report.Report.{Report}
use Rattle.css_model.specs.History.{History}
use Rattle.css_model.specs.Numbers.{max_error}
use Rattle.css_model.specs.WallClock.{Answer, Local}
use Rattle.css_model.specs.World.{World, Errors, IsWorldFor, Reads}
use Rattle.css_num.specs.Spans.{Interval, Covers}
use Rattle.css_span.specs.WallSpans.{span_of}
use Rattle.css_watch_lines.specs.declared.known.Known.{Known as Ticking}

-- The report at a later reading. Its ticks are those that the timing assigns to the ends of a span that the report
-- told, carried on by the error that it told. The timing has the last control timestamp, and the rate of the last
-- state: the rate and the speed in the report's line don't count. Where there is no timing, the report is its cause.
abbrev pub carried_report : Local → ℕ → ℕ → Interval → Result Timing Cause → ℕ → Report
carried_report own reading error span timing later = report_by (Some (carried own error span reading later)) timing

-- the line of a report at this reading tells of this answer
pub record TellsOf (own : Local) (reading : ℕ) (answer : Answer) (told : Ticking) : Type 0 where
  pub wall : told.wall ≡ span_of own reading answer
  pub error : told.error ≡ answer.error

-- Whatever a visit has been told by a later reading: the report that is carried on contains the tick that the last
-- control timestamp assigns to the wall clock there, by the rate of the last state. So it is in each world that keeps
-- the oscillators' errors and makes the report's answer truthful.
abbrev pub CarriedReportsAreTrue : Type 0
CarriedReportsAreTrue = (own : Local) (selector : List ℕ) (history : History) (answer : Answer) (told : Ticking)
    (reading later : ℕ) → answer.error ≤ max_error → TellsOf own reading answer told
    → (errors : Errors) (world : World) (who sleeps i : ℕ)
    → IsWorldFor errors world who own → Reads world who i own.precision later sleeps
    → IsTruthful errors world who own sleeps i answer
    → HasTickOf (carried_report own reading told.error told.wall (timing_after selector history) later)
    (assigned_after selector history (world i).wall)

-- So it is of any span that contains the wall clock when the report is made, whatever told it: in each world that keeps
-- the oscillators' errors, where the television's is at most that by which the span is carried on.
abbrev pub CarriedSpansHaveTicks : Type 0
CarriedSpansHaveTicks = (own : Local) (selector : List ℕ) (history : History) (error : ℕ) (span : Interval)
    (reading later : ℕ) (errors : Errors) (world : World) (who sleeps i j : ℕ)
    → IsWorldFor errors world who own → errors.tv ≤ error → error ≤ max_error → i ≤ j
    → Reads world who i own.precision reading sleeps → Reads world who j own.precision later sleeps
    → Covers span (pos (world i).wall)
    → HasTickOf (carried_report own reading error span (timing_after selector history) later)
    (assigned_after selector history (world j).wall)

-- ---- ranges
-- what a line tells is in range: an error that can be declared, and ends that are at most 2^67 either way
pub record CanBeCarried (error : ℕ) (span : Interval) : Type 0 where
  pub error_so : error ≤ max_error
  pub low : unsigned_abs span.lo ≤ 2 ^ 67
  pub high : unsigned_abs span.hi ≤ 2 ^ 67
