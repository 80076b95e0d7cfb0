-- A report that is carried on has the tick of the wall clock.
use Rattle.std.proofs.Common.{◌≡◌, ℕ, arith, refl, subst, []}
use Rattle.std.proofs.lemmas.Int.{ints}
use Rattle.std.proofs.lemmas.List.Elements.{All-nil, All-cons}
use Rattle.std.specs.Prelude.{ℤ, pos, ◌≤ℤ◌, ◌*ℤ◌, Some, Result, Ok, Err}
use Rattle.css_agree.proofs.Carrying.{carried_spans_are_true, carrying_is_true}
use Rattle.css_agree.specs.Agreements.{IsTruthful}
use Rattle.css_agree.specs.Carrying.{carried}
use Rattle.css_clock.proofs.Goes.{root_goes, child_goes, span_of-all}
use Rattle.css_clock.specs.Ticks as clocks
use Rattle.css_clock.specs.Ticks.{Correlation, child_value}
use Rattle.css_companion.proofs.Timelines.{reads, same_span}
use Rattle.css_companion.specs.Meanings.{timing_after}
use Rattle.css_companion.specs.Positions.{nanoseconds, position}
use Rattle.css_companion.specs.Reports.{HasTickOf, assigned_by, report_by, tick_at, ticks_at}
use Rattle.css_companion.specs.declared.knowledge.Timing.{Timing}
use Rattle.css_companion.specs.declared.report.Cause.{Cause}
use Rattle.css_num.specs.Spans.{Covers, Interval}
use Rattle.css_carry.specs.CarriedReports.{CarriedReportsAreTrue, CarriedSpansHaveTicks}

-- the ticks at the ends of a span have between them the tick at each value of the span
has_tick : (span : Interval) (timing : Timing) (wall : ℕ) → Covers span (pos wall)
    → HasTickOf (ticks_at span timing) (Some (tick_at timing wall))
has_tick span timing wall inside =
    let correlation : Correlation =
    record { speed = timing.speed; parent_ticks = pos timing.wall; child_ticks = timing.content } in
    let clock = λ (value : ℤ). child_value timing.rate nanoseconds correlation value in
    let tick = λ (value : ℤ). position timing.content timing.wall timing.speed timing.rate value in
    let same : (value : ℤ) → clock value ≡ tick value =
    λ value. reads timing.rate nanoseconds correlation timing.wall value refl refl in
    let goes = child_goes timing.rate nanoseconds correlation (pos 1) (λ root. root) root_goes in
    let ordered : span.lo ≤ℤ span.hi = omega (arith, ints, inside.low, inside.high) in
    let read : Covers (clocks.span_of clock span) (clock (pos wall)) =
    (span_of-all (pos 1 *ℤ timing.speed) clock span goes ordered).covered (pos wall) inside in
    let covered : Covers (clocks.span_of tick span) (tick (pos wall)) =
    subst (λ (i : Interval). Covers i (tick (pos wall))) (same_span clock tick span same)
    (subst (λ (n : ℤ). Covers (clocks.span_of clock span) n) (same (pos wall)) read) in
    (covered.low, covered.high)

-- and so has the report, whatever the timing is
reported : (span : Interval) (timing : Result Timing Cause) (wall : ℕ) → Covers span (pos wall)
    → HasTickOf (report_by (Some span) timing) (assigned_by timing wall)
reported span (Err cause) wall inside = tt
reported span (Ok timing) wall inside = has_tick span timing wall inside

pub carried_reports_are_true : CarriedReportsAreTrue
carried_reports_are_true own selector history answer told reading later most tells errors world who sleeps i for reads
    truthful =
    let within = carrying_is_true own answer reading later most errors world who sleeps i for reads
    (All-cons (IsTruthful errors world who own sleeps i) answer [] truthful
    (All-nil (IsTruthful errors world who own sleeps i))) in
    let told_within : Covers (carried own told.error told.wall reading later) (pos (world i).wall) =
    rw (tells.wall, tells.error) within in
    reported (carried own told.error told.wall reading later) (timing_after selector history) (world i).wall told_within

pub carried_spans_have_ticks : CarriedSpansHaveTicks
carried_spans_have_ticks own selector history error span reading later errors world who sleeps i j for declared most
    order from to within =
    reported (carried own error span reading later) (timing_after selector history) (world j).wall
    (carried_spans_are_true errors world who own error sleeps i j reading later span for declared most order from to
    within)
