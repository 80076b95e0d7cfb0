-- Clocks that go by a parent clock: what a clock reads at each value of its parent, and of its root.
use Rattle.std.specs.Prelude.{◌≡◌, ℕ, ◌*◌, ◌^◌, ◌<◌, ℤ, pos, negsuc, ◌+ℤ◌, ◌-ℤ◌, ◌*ℤ◌, ◌≤ℤ◌, unsigned_abs}
use Rattle.std.specs.Int.{int_min, int_max}
use Rattle.css_num.specs.Rates.{TickRate}
use Rattle.css_num.specs.Division.{floor_div}
use Rattle.css_num.specs.Spans.{Interval, Covers}

-- how a clock goes by its parent: at parent_ticks of the parent it reads child_ticks, and it goes at speed times its
-- tick rate
pub record Correlation : Type 0 where
  pub speed : ℤ
  pub parent_ticks : ℤ
  pub child_ticks : ℤ

-- a speed is -64 to 64
pub record IsSpeed (speed : ℤ) : Type 0 where
  pub low : negsuc 63 ≤ℤ speed
  pub high : speed ≤ℤ pos 64

-- over the divisor, the ticks that a clock goes for each tick of its parent
abbrev pub factor_of : TickRate → TickRate → ℤ → ℤ
factor_of rate parent_rate speed = pos (rate.units_per_second * parent_rate.units_per_tick) *ℤ speed

-- under the factor
abbrev pub divisor_of : TickRate → TickRate → ℕ
divisor_of rate parent_rate = rate.units_per_tick * parent_rate.units_per_second

-- the parent's ticks since the correlation, times the factor
abbrev pub product_of : TickRate → TickRate → Correlation → ℤ → ℤ
product_of rate parent_rate correlation value =
    (value -ℤ correlation.parent_ticks) *ℤ factor_of rate parent_rate correlation.speed

-- what a clock reads where its parent reads a value
abbrev pub child_value : TickRate → TickRate → Correlation → ℤ → ℤ
child_value rate parent_rate correlation value =
    correlation.child_ticks +ℤ floor_div (product_of rate parent_rate correlation value) (divisor_of rate parent_rate)

-- a product is below 2^126 either way
abbrev pub IsSmall : ℤ → Type 0
IsSmall product = unsigned_abs product < 2 ^ 126

-- it holds of the parent, and the product on the way is small
pub record HoldsOn (Parent : Type 0) (product : ℤ) : Type 0 where
  pub parent : Parent
  pub small : IsSmall product

-- both ends of a span moved by a number of ticks
abbrev pub shifted_by : Interval → ℤ → Interval
shifted_by span ticks = record { lo = ticks +ℤ span.lo; hi = ticks +ℤ span.hi }

-- the ticks of a span since a tick
abbrev pub since_of : Interval → ℤ → Interval
since_of span ticks = record { lo = span.lo -ℤ ticks; hi = span.hi -ℤ ticks }

-- what holds of both ends of a span of root values
pub record HoldsOver (Holds : ℤ → Type 0) (root : Interval) : Type 0 where
  pub low : Holds root.lo
  pub high : Holds root.hi

-- the readings at the two ends of a span of root values, the lesser first
abbrev pub span_of : (ℤ → ℤ) → Interval → Interval
span_of value root =
    record { lo = int_min (value root.lo) (value root.hi); hi = int_max (value root.lo) (value root.hi) }

-- the least span that has the reading at each root value of a span
pub record IsSpanOf (value : ℤ → ℤ) (root span : Interval) : Type 0 where
  pub covered : (number : ℤ) → Covers root number → Covers span (value number)
  pub lo_reached : (number : ℤ) × Covers root number × (value number ≡ span.lo)
  pub hi_reached : (number : ℤ) × Covers root number × (value number ≡ span.hi)

-- by the sign of a product of speeds, the reading never falls as the root rises, or never rises
pub record GoesBy (speeds : ℤ) (value : ℤ → ℤ) : Type 0 where
  pub rises : pos 0 ≤ℤ speeds → (x y : ℤ) → x ≤ℤ y → value x ≤ℤ value y
  pub falls : speeds ≤ℤ pos 0 → (x y : ℤ) → x ≤ℤ y → value y ≤ℤ value x
