-- A span of the wall clock, carried on to a later reading of the companion's clock.
use Rattle.std.specs.Prelude.{ℕ, pos, ◌≡◌, ◌+◌, ◌-◌, ◌*◌, ◌≤◌, ◌+ℤ◌, ◌-ℤ◌, ◌*ℤ◌, [], ◌∷◌}
use Rattle.css_num.specs.Spans.{Interval, Covers}
use Rattle.css_model.specs.declared.TheConstants.{F}
use Rattle.css_model.specs.Numbers.{floor_div, ceil_div, max_error}
use Rattle.css_model.specs.WallClock.{Answer, Local}
use Rattle.css_model.specs.World.{World, Errors, IsWorldFor, Reads}
use Rattle.css_span.specs.WallSpans.{span_of}
use Rattle.css_agree.specs.Agreements.{IsTrueOf}

-- The span at a later reading, where `error` bounds the television's oscillator. While the companion's clock goes on by
-- F + own.error, the wall clock goes on by at least F - error; by F - own.error, by at most F + error. Both readings
-- are off by up to the precision, and both clocks show whole nanoseconds. The ends are rounded outward.
abbrev pub carried : Local → ℕ → Interval → ℕ → ℕ → Interval
carried own error span reading later = record {
  lo = (span.lo -ℤ pos 1)
      +ℤ floor_div (pos (F - error) *ℤ (pos later -ℤ pos (reading + 2 * own.precision + 1))) (F + own.error);
  hi = (span.hi +ℤ pos 1)
      +ℤ ceil_div (pos (F + error) *ℤ (pos (later + 2 * own.precision + 1) -ℤ pos reading)) (F - own.error);
}

-- The span of an answer at one reading, carried on to another, contains the wall clock there, in every world that makes
-- the answer truthful.
abbrev pub CarryingIsTrue : Type 0
CarryingIsTrue = (own : Local) (answer : Answer) (reading later : ℕ) → answer.error ≤ max_error
    → IsTrueOf own later (answer ∷ []) (carried own answer.error (span_of own reading answer) reading later)

-- Whatever told a span that contains the wall clock at one moment: carried on, it contains the wall clock at each later
-- moment before the companion's next sleep.
abbrev pub CarriedSpansAreTrue : Type 0
CarriedSpansAreTrue = (errors : Errors) (world : World) (who : ℕ) (own : Local)
    (error sleeps i j reading later : ℕ) (span : Interval)
    → IsWorldFor errors world who own → errors.tv ≤ error → error ≤ max_error → i ≤ j
    → Reads world who i own.precision reading sleeps → Reads world who j own.precision later sleeps
    → Covers span (pos (world i).wall)
    → Covers (carried own error span reading later) (pos (world j).wall)

-- A worked example: oscillators of 250 ppm and 500 ppm, and readings that are off by up to 20 ns. In one second the
-- span grows from 7,413 ns to some 1.5 ms.
abbrev pub CarriedForASecond : Type 0
CarriedForASecond =
    carried (record { error = 128000; precision = 20 }) 64000 (record { lo = pos 5004997295; hi = pos 5005004708 })
    5998000 1005998000
    ≡ record { lo = pos 6004247627; hi = pos 6005755126 }
