-- A span of one clock's ticks as ticks of another: up to the nearest common ancestor of the two, outward at each step,
-- and down from it.
use Rattle.std.specs.Prelude.{◌≡◌, ◌≢◌, ◌↔◌, ℕ, ◌*◌, ◌&&◌, ◌==◌, Bool, true, false, nat_eq, if◌then◌else◌, List, []}
use Rattle.std.specs.Prelude.{◌∷◌, Option, Some, None, Result, Ok, Err, ℤ, pos, negsuc, ◌≤ℤ◌, neg_ℤ, ◌+ℤ◌, ◌-ℤ◌, ◌*ℤ◌}
use Rattle.std.specs.Prelude.{unsigned_abs, int_lt}
use Rattle.std.specs.Int.{int_min, int_max}
use Rattle.css_num.specs.Rates.{TickRate}
use Rattle.css_num.specs.Division.{floor_div, ceil_div}
use Rattle.css_num.specs.Spans.{Interval, Covers}
use Rattle.css_clock.specs.Ticks.{divisor_of}
use Rattle.css_tree.specs.declared.fault.ClockFault.{ClockFault}
use Rattle.css_tree.specs.declared.fault.ClockFault.TheVariants.{Stopped, NoCommon, Beyond}
use Rattle.css_tree.specs.declared.node.Gear.{Gear}
use Rattle.css_tree.specs.Trees.{Clocks, IsForest, then_with, known, all_available, lineage, is_tick, gear_of}
use Rattle.css_tree.specs.Trees.{gear_value, checked_step, value_of}

-- both ends of a span, of which the first isn't above the second, are ticks of an i64
pub record IsTicks (span : Interval) : Type 0 where
  pub low : negsuc 9223372036854775807 ≤ℤ span.lo
  pub high : span.hi ≤ℤ pos 9223372036854775807

-- the clock is one of these
abbrev pub is_among : ℕ → List ℕ → Bool
is_among id [] = false
is_among id (one ∷ more) = if one == id then true else is_among id more

-- the first of some clocks that is one of others
abbrev pub first_among : List ℕ → List ℕ → Option ℕ
first_among [] others = None
first_among (id ∷ above) others = if is_among id others then Some id else first_among above others

-- the nearest clock that is above both, where each clock is above itself
abbrev pub nearest_common : Clocks → ℕ → ℕ → Option ℕ
nearest_common clocks from to = first_among (lineage clocks from) (lineage clocks to)

-- the last of some clocks, or another where there are none
abbrev pub last_of : ℕ → List ℕ → ℕ
last_of other [] = other
last_of other (id ∷ above) = last_of id above

-- the root that a clock stands on
abbrev pub root_of : Clocks → ℕ → ℕ
root_of clocks id = last_of id (lineage clocks id)

-- no clock is above both of two exactly where they have different roots
abbrev pub NoneCommonIsTwoRoots : Type 0
NoneCommonIsTwoRoots = (clocks : Clocks) (from to : ℕ) → IsForest clocks → (nearest_common clocks from to ≡ None)
    ↔ (root_of clocks from ≢ root_of clocks to)

-- the clocks of a path up to one of them, this one included
abbrev pub up_to : ℕ → List ℕ → List ℕ
up_to top [] = []
up_to top (id ∷ above) = if id == top then id ∷ [] else id ∷ up_to top above

-- the clocks of a path below one of them
abbrev pub below : ℕ → List ℕ → List ℕ
below top [] = []
below top (id ∷ above) = if id == top then [] else id ∷ below top above

-- the absolute value of a clock's factor
abbrev pub magnitude_of : TickRate → TickRate → ℤ → ℕ
magnitude_of rate parent_rate speed = rate.units_per_second * parent_rate.units_per_tick * unsigned_abs speed

-- a span of ticks since a tick, times the divisor, from the first tick to the end of the last one
abbrev pub scaled_span : Interval → ℤ → ℤ → Interval
scaled_span span ticks divisor =
    record { lo = (span.lo -ℤ ticks) *ℤ divisor; hi = (span.hi +ℤ pos 1 -ℤ ticks) *ℤ divisor }

-- the span as it is, or by a speed that isn't above 0 with the other sign
abbrev pub turned : ℤ → Interval → Interval
turned speed span = if int_lt (pos 0) speed then span else record { lo = neg_ℤ span.hi; hi = neg_ℤ span.lo }

-- a number over the magnitude, rounded down, and a number of ticks more
abbrev pub rounded_down : ℤ → ℕ → ℤ → ℤ
rounded_down number magnitude ticks = ticks +ℤ floor_div number magnitude

-- the same, rounded up
abbrev pub rounded_up : ℤ → ℕ → ℤ → ℤ
rounded_up number magnitude ticks = ticks +ℤ ceil_div number magnitude

-- the ends of a span over the magnitude, the first rounded down and the last rounded up, and a number of ticks more
abbrev pub outward_by : Interval → ℕ → ℤ → Interval
outward_by span magnitude ticks =
    record { lo = rounded_down span.lo magnitude ticks; hi = rounded_up span.hi magnitude ticks }

-- a span of a clock's ticks as a span of its parent's: outward from the first value of the parent at which the clock
-- may read one of them to the last
abbrev pub outward : Gear → Interval → Interval
outward gear span =
    let scaled = scaled_span span gear.link.child_ticks (pos (divisor_of gear.rate gear.parent_rate)) in
    outward_by (turned gear.link.speed scaled) (magnitude_of gear.rate gear.parent_rate gear.link.speed)
    gear.link.parent_ticks

-- a span, where both its ends are ticks of a clock
abbrev pub in_range : ℕ → Interval → Result Interval ClockFault
in_range id span = if is_tick span.lo && is_tick span.hi then Ok span else Err (Beyond id)

-- a step up from a clock, where it isn't stopped
abbrev pub gear_up : ℕ → Gear → Interval → Result Interval ClockFault
gear_up id gear span = if nat_eq (unsigned_abs gear.link.speed) 0 then Err (Stopped id)
    else in_range gear.link.parent (outward gear span)

-- the same of the clock with a number, where a root has no step
abbrev pub step_up : ℕ → Option Gear → Interval → Result Interval ClockFault
step_up id None span = Ok span
step_up id (Some gear) span = gear_up id gear span

-- steps up from the first of these clocks to the parent of the last
abbrev pub steps_up : Clocks → List ℕ → Interval → Result Interval ClockFault
steps_up clocks [] span = Ok span
steps_up clocks (id ∷ above) span = then_with (step_up id (gear_of clocks id) span) (steps_up clocks above)

-- a step down to the clock with a number: what it reads at both ends, the lesser first
abbrev pub step_down : ℕ → Option Gear → Interval → Result Interval ClockFault
step_down id gear span =
    then_with (checked_step id gear span.lo) (λ first.
    then_with (checked_step id gear span.hi) (λ last. Ok (record { lo = int_min first last; hi = int_max first last })))

-- steps down from the parent of the last of these clocks to the first
abbrev pub steps_down : Clocks → List ℕ → Interval → Result Interval ClockFault
steps_down clocks [] span = Ok span
steps_down clocks (id ∷ above) span = then_with (steps_down clocks above span) (step_down id (gear_of clocks id))

-- a clock that there is, or that the two have none in common
abbrev pub common_of : Option ℕ → Result ℕ ClockFault
common_of None = Err NoCommon
common_of (Some top) = Ok top

-- a span of one clock's ticks as ticks of another, by way of a clock above both
abbrev pub converted_by : Clocks → ℕ → ℕ → Interval → ℕ → Result Interval ClockFault
converted_by clocks from to span top =
    then_with (all_available clocks (up_to top (lineage clocks from))) (λ _.
    then_with (all_available clocks (up_to top (lineage clocks to))) (λ _.
    then_with (steps_up clocks (below top (lineage clocks from)) span)
    (steps_down clocks (below top (lineage clocks to)))))

-- a span of one clock's ticks as ticks of another
unfoldable pub converted : Clocks → ℕ → ℕ → Interval → Result Interval ClockFault
converted clocks from to span =
    then_with (known clocks from) (λ _.
    then_with (known clocks to) (λ _.
    then_with (common_of (nearest_common clocks from to)) (converted_by clocks from to span)))

-- what a clock reads where its parent, or itself as a root, reads a value
abbrev pub reading_step : Option Gear → ℤ → ℤ
reading_step None value = value
reading_step (Some gear) value = gear_value gear value

-- what the first of these clocks reads where the parent of the last reads a value
abbrev pub reading_down : Clocks → List ℕ → ℤ → ℤ
reading_down clocks [] value = value
reading_down clocks (id ∷ above) value = reading_step (gear_of clocks id) (reading_down clocks above value)

-- what a clock reads where a clock above it reads a value, with no bound
abbrev pub reading_below : Clocks → ℕ → ℕ → ℤ → ℤ
reading_below clocks top id value = reading_down clocks (below top (lineage clocks id)) value

-- the answer of a conversion: at each value of the nearest clock above both at which the one clock reads a tick of the
-- span, the other reads a tick of the answer; so does it at each value of the root at which both are read
pub record IsConversion (clocks : Clocks) (from to : ℕ) (span answer : Interval) : Type 0 where
  pub top : ℕ
  pub nearest : nearest_common clocks from to ≡ Some top
  pub covered : (value : ℤ) → Covers span (reading_below clocks top from value)
      → Covers answer (reading_below clocks top to value)
  pub read : (root first second : ℤ) → value_of clocks from root ≡ Ok first → value_of clocks to root ≡ Ok second
      → Covers span first → Covers answer second
