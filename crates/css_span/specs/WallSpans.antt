-- The span of an answer, and that of the narrowest of answers.
use Rattle.std.specs.Prelude.{ℕ, ◌≤◌, ◌^◌, unsigned_abs, List, Option}
use Rattle.std.specs.Option.{option_map}
use Rattle.css_num.specs.Spans.{Interval}
use Rattle.css_model.specs.WallClock.{Answer, Local, lo, hi, narrowest}

-- the answer's span at the reading, its ends rounded outward
abbrev pub span_of : Local → ℕ → Answer → Interval
span_of own reading answer = record { lo = lo own answer reading; hi = hi own answer reading }

-- the span of the narrowest of the accepted answers, the newest of which stands first
abbrev pub wall_span : Local → ℕ → List Answer → Option Interval
wall_span own reading accepted = option_map (span_of own reading) (narrowest own reading accepted)

-- Both ends are at most 2^68 either way. So a caller has room to go on with them in 128 bits.
pub record IsNear (span : Interval) : Type 0 where
  pub low : unsigned_abs span.lo ≤ 2 ^ 68
  pub high : unsigned_abs span.hi ≤ 2 ^ 68
