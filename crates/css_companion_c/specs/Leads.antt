-- How far ahead of the television somebody is who stands at a tick.
use Rattle.std.specs.Prelude.{ℕ, ◌≡◌, ◌*◌, ℤ, pos, ◌-ℤ◌, ◌*ℤ◌, ◌≤ℤ◌, ◌∷◌, length, Option, Some, None, Result, Ok, Err}
use Rattle.std.specs.Int.{int_min, int_max}
use Rattle.css_num.specs.Division.{floor_div, ceil_div}
use Rattle.css_num.specs.Spans.{Interval}
use Rattle.css_model.specs.declared.Why.TheVariants as why
use Rattle.css_model.specs.World.{World, Errors, IsWorldFor}
use Rattle.css_model.specs.History.{Clock, History, accepted_answers}
use Rattle.css_model.specs.Explains.{Explains}
use Rattle.css_span.specs.WallSpans.{wall_span}
use Rattle.css_companion.specs.Meanings.{timing_after}
use Rattle.css_companion.specs.Standing.{Companion, StandsFor, own_of}
use Rattle.css_companion.specs.declared.knowledge.Timing.{Timing}
use Rattle.css_companion.specs.declared.report.Cause.{Cause}
use Rattle.css_companion_c.specs.Codes.{cause_code, narrow_code, NO_ANSWER}
use Rattle.css_companion_c.specs.declared.reading.Ends.{Ends}

-- ---- the lead
-- The nanoseconds that the timeline takes at speed 1 from the tick of its control timestamp to this one, as a multiple
-- of 1 / units_per_second.
abbrev pub distance : Timing → ℤ → ℤ
distance timing tick = (tick -ℤ timing.content) *ℤ pos (timing.rate.units_per_tick * 1000000000)

-- the nanoseconds that the timeline has gone where the television's wall clock shows a value
abbrev pub gone : Timing → ℤ → ℤ
gone timing value = (value -ℤ pos timing.wall) *ℤ timing.speed

-- The lead itself, as a multiple of 1 / units_per_second: how many nanoseconds of the timeline lie between where the
-- television is, which isn't rounded to a whole tick, and the beginning of this tick.
abbrev pub scaled_lead : Timing → ℤ → ℤ → ℤ
scaled_lead timing tick value =
    distance timing tick -ℤ (gone timing value *ℤ pos timing.rate.units_per_second)

-- the leads over a span of the wall clock, both ends rounded outward
abbrev pub lead_at : Timing → ℤ → Interval → Interval
lead_at timing tick span =
    let first = gone timing span.lo in
    let last = gone timing span.hi in
    record {
      lo = floor_div (distance timing tick) timing.rate.units_per_second -ℤ int_max first last;
      hi = ceil_div (distance timing tick) timing.rate.units_per_second -ℤ int_min first last;
    }

-- ---- what is told
-- the code of the lead of a tick, where the wall clock has a span
abbrev pub timed_code : Interval → Result Timing Cause → ℤ → ℕ
timed_code span (Err cause) tick = cause_code cause
timed_code span (Ok timing) tick = narrow_code (lead_at timing tick span).lo (lead_at timing tick span).hi

-- the code of the lead of a tick, by the wall clock's span, if there is one, and the timing
abbrev pub lead_code : Option Interval → Result Timing Cause → ℤ → ℕ
lead_code None timing tick = NO_ANSWER
lead_code (Some span) timing tick = timed_code span timing tick

-- the lead of a tick by these, if both are known
abbrev pub lead_of : Option Interval → Result Timing Cause → ℤ → Option Interval
lead_of (Some span) (Ok timing) tick = Some (lead_at timing tick span)
lead_of _ _ tick = None

-- ---- what is promised
-- The ends are the leads over the span of the narrowest accepted answer, by the last control timestamp.
abbrev pub IsTheLead : ℕ → ℤ → Ends → Companion → Type 0
IsTheLead reading tick ends companion = (history : History) → StandsFor companion history
    → lead_of (wall_span (own_of companion) reading (accepted_answers (own_of companion) history))
    (timing_after companion.setup.selector history) tick
    ≡ Some (record { lo = ends.lo; hi = ends.hi })

-- the lead of a tick where the wall clock shows a value lies between the ends
pub record IsBetween (ends : Ends) (timing : Timing) (tick value : ℤ) : Type 0 where
  pub low : (ends.lo *ℤ pos timing.rate.units_per_second) ≤ℤ scaled_lead timing tick value
  pub high : scaled_lead timing tick value ≤ℤ (ends.hi *ℤ pos timing.rate.units_per_second)

-- there is a timing, and the lead lies between the ends
abbrev pub IsLead : Ends → Result Timing Cause → ℤ → ℤ → Type 0
IsLead ends (Err cause) tick value = ⊥
IsLead ends (Ok timing) tick value = IsBetween ends timing tick value

-- In each world that keeps the declared errors of both clocks and explains what the companion did, with this reading at
-- the end, the lead over the television lies between the ends, as the last control timestamp and the television's wall
-- clock have it.
abbrev pub HoldsTheLead : ℕ → ℤ → Ends → Companion → Type 0
HoldsTheLead reading tick ends companion =
    (history : History) (errors : Errors) (world : World) (who : ℕ) (moment_of : ℕ → ℕ)
    → StandsFor companion history → IsWorldFor errors world who (own_of companion)
    → Explains world who errors.tv (own_of companion) (Clock why.Turn reading ∷ history) moment_of
    → IsLead ends (timing_after companion.setup.selector history) tick
    (pos (world (moment_of (length history))).wall)
