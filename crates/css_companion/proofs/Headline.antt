-- The headline, of a history: the span is true, and a control timestamp takes each value of it to a tick of the report.
use Rattle.std.proofs.Common.{◌≡◌, ℕ, arith, refl, subst, Bool, true, false, List, [], ◌∷◌, length}
use Rattle.std.proofs.lemmas.Int.{ints}
use Rattle.std.specs.Prelude.{ℤ, pos, ◌≤ℤ◌, ◌*ℤ◌, Option, Some, None, IfSome, Result, Ok, Err, if◌then◌else◌}
use Rattle.std.specs.Option.{option_map, option_or}
use Rattle.css_model.specs.declared.Why.TheVariants as why
use Rattle.css_model.specs.WallClock.{Answer, Local}
use Rattle.css_model.specs.Truth.{Contains}
use Rattle.css_model.specs.History.{Clock, History, accepted_answers, wall_answer}
use Rattle.css_model.specs.Explains.{IsLawful}
use Rattle.css_model.proofs.Wall.{wall_is_true}
use Rattle.css_num.specs.Rates.{TickRate}
use Rattle.css_num.specs.Spans.{Interval, Covers}
use Rattle.css_num.specs.declared.control.Control.{Control}
use Rattle.css_num.specs.declared.control.Control.TheVariants.{Available, Unavailable}
use Rattle.css_span.specs.WallSpans as walls
use Rattle.css_span.specs.WallSpans.{wall_span}
use Rattle.css_clock.proofs.Goes.{root_goes, child_goes, span_of-all}
use Rattle.css_clock.specs.Ticks.{Correlation, child_value, span_of}
use Rattle.css_tsmsg.specs.Controls.{control_of}
use Rattle.css_tsmsg.specs.Faults.{NotMemory}
use Rattle.css_tsmsg.specs.declared.fault.TsFault.{TsFault}
use Rattle.css_tsmsg.proofs.Never.{not_memory}
use Rattle.css_companion.specs.Positions.{nanoseconds, position}
use Rattle.css_companion.specs.Reports.{tick_at, ticks_at, timing_of, report_by, assigned_by, HasTickOf, SaysNoMemory}
use Rattle.css_companion.specs.Meanings.{ts_text, opens_ts, control_by, is_closed, rate_after, timing_after}
use Rattle.css_companion.specs.Meanings.{report_after}
use Rattle.css_companion.specs.Headline.{ContainsThePosition, TheHeadline}
use Rattle.css_companion.specs.declared.knowledge.Timing.{Timing}
use Rattle.css_companion.specs.declared.report.Cause.{Cause}
use Rattle.css_companion.proofs.Telling.{told_is_published}
use Rattle.css_companion.proofs.Timelines.{reads, same_span}

-- the ticks at the ends of a span have between them the tick at each value of the span
has_tick : (span : Interval) (timing : Timing) (wall : ℕ) → Covers span (pos wall)
    → HasTickOf (ticks_at span timing) (Some (tick_at timing wall))
has_tick span timing wall inside =
    let correlation : Correlation =
    record { speed = timing.speed; parent_ticks = pos timing.wall; child_ticks = timing.content } in
    let clock = λ (value : ℤ). child_value timing.rate nanoseconds correlation value in
    let tick = λ (value : ℤ). position timing.content timing.wall timing.speed timing.rate value in
    let same : (value : ℤ) → clock value ≡ tick value =
    λ value. reads timing.rate nanoseconds correlation timing.wall value refl refl in
    let goes = child_goes timing.rate nanoseconds correlation (pos 1) (λ root. root) root_goes in
    let ordered : span.lo ≤ℤ span.hi = omega (arith, ints, inside.low, inside.high) in
    let read : Covers (span_of clock span) (clock (pos wall)) =
    (span_of-all (pos 1 *ℤ timing.speed) clock span goes ordered).covered (pos wall) inside in
    let covered : Covers (span_of tick span) (tick (pos wall)) =
    subst (λ (i : Interval). Covers i (tick (pos wall))) (same_span clock tick span same)
    (subst (λ (n : ℤ). Covers (span_of clock span) n) (same (pos wall)) read) in
    (covered.low, covered.high)

-- where the narrowest answer's span contains the wall clock, the report contains its position
reported : (own : Local) (reading wall : ℕ) (answer : Option Answer) (timing : Result Timing Cause)
    → IfSome answer (λ narrowest. Contains own narrowest reading wall)
    → HasTickOf (report_by (option_map (walls.span_of own reading) answer) timing) (assigned_by timing wall)
reported own reading wall None timing h = tt
reported own reading wall (Some answer) (Err cause) h = tt
reported own reading wall (Some answer) (Ok timing) h =
    has_tick (walls.span_of own reading answer) timing wall (record { low = h.low; high = h.high })

-- each world that explains the history has its wall clock in that span
contains : (own : Local) (selector : List ℕ) (history : History) (reading : ℕ) → IsLawful history
    → ContainsThePosition own selector history reading (report_after own selector history reading)
contains own selector history reading lawful errors world who moment_of for explains =
    let read : IsLawful (Clock why.Turn reading ∷ history) =
    record { rises = (tt, lawful.rises); asks = (tt, lawful.asks) } in
    reported own reading (world (moment_of (length history))).wall (wall_answer own history reading)
    (timing_after selector history)
    (wall_is_true errors world who own (Clock why.Turn reading ∷ history) moment_of for read explains).0

-- the last text of the TS session is never read as want of memory
newest : (text : Option (List ℕ)) (before : Option (Result Control TsFault)) → IfSome before NotMemory
    → IfSome (option_or (option_map control_of text) before) NotMemory
newest None before h = h
newest (Some bytes) before h = not_memory bytes

since : (opens : Bool) (control : Option (Result Control TsFault)) → IfSome control NotMemory
    → IfSome (if opens then None else control) NotMemory
since true control h = tt
since false control h = h

known : (history : History) → IfSome (control_by history) NotMemory
known [] = tt
known (entry ∷ older) = since (opens_ts entry) _ (newest (ts_text entry older) (control_by older) (known older))

-- so no cause is
timed : (span : Option Interval) (control : Option (Result Control TsFault)) (closed : Bool) (rate : Option TickRate)
    → IfSome control NotMemory → SaysNoMemory (report_by span (timing_of control closed rate))
timed None control closed rate h = tt
timed (Some span) None closed rate h = tt
timed (Some span) (Some told) true rate h = tt
timed (Some span) (Some (Err fault)) false rate h = h
timed (Some span) (Some (Ok Unavailable)) false rate h = tt
timed (Some span) (Some (Ok (Available content wall speed))) false None h = tt
timed (Some span) (Some (Ok (Available content wall speed))) false (Some rate) h = tt

no_memory : (own : Local) (selector : List ℕ) (history : History) (reading : ℕ)
    → SaysNoMemory (report_after own selector history reading)
no_memory own selector history reading =
    timed (wall_span own reading (accepted_answers own history)) (control_by history) (is_closed history)
    (rate_after selector history) (known history)

-- the headline
pub headline : TheHeadline
headline own selector history reading lawful = record {
  contains = contains own selector history reading lawful;
  narrowest = refl;
  has_cause = no_memory own selector history reading;
  published = told_is_published history;
}
