-- How far the wall clock goes is the span of an answer that came at once, when it showed 0.
use Rattle.std.proofs.Common.{◌≡◌, ℕ, ◌+◌, ◌-◌, ◌*◌, ◌^◌, ◌<◌, ◌≤◌, ap₂, arith}
use Rattle.std.proofs.Math.Nat.{mul-le-mul_left, mul-le-mul_right}
use Rattle.std.proofs.lemmas.Int.{ints, unsigned_abs-mul}
use Rattle.std.specs.Prelude.{ℤ, pos, ◌≤ℤ◌, ◌-ℤ◌, ◌*ℤ◌, neg_ℤ, unsigned_abs}
use Rattle.css_agree.specs.Carrying.{carried}
use Rattle.css_model.proofs.Ends.{scaled_width-later}
use Rattle.css_model.proofs.Standard.{spans_are_the_standard}
use Rattle.css_model.proofs.Widths.{width_is}
use Rattle.css_model.specs.Numbers.{floor_div, max_error}
use Rattle.css_model.specs.WallClock.{Answer, Local, IsLocal, scaled_width}
use Rattle.css_model.specs.declared.TheConstants.{F, LIMIT}
use Rattle.css_num.proofs.Rounding.{floor_div-within}
use Rattle.css_num.specs.Spans.{Interval}
use Rattle.css_span.specs.WallSpans.{span_of}

abbrev pub at_once : ℕ → ℕ → Answer
at_once error reading = record { t1 = reading; t2 = 0; t3 = 0; t4 = reading; precision = 0; error = error }

-- the span that the wall clock's 0 is carried on to
abbrev pub passed : Local → ℕ → ℕ → ℕ → Interval
passed own error reading later = carried own error (record { lo = pos 0; hi = pos 0 }) reading later

pub is_possible : (own : Local) (error reading later : ℕ) → IsLocal own → error ≤ max_error → reading ≤ later
    → pos 0 ≤ℤ scaled_width own (at_once error reading) later
is_possible own error reading later local most order =
    scaled_width-later own (at_once error reading) reading later local most order
    (omega (arith, ints, width_is own (at_once error reading) reading))

pub span_is : (own : Local) (error reading later : ℕ) → IsLocal own → error ≤ max_error
    → span_of own later (at_once error reading) ≡ passed own error reading later
span_is own error reading later local most =
    let formula = spans_are_the_standard own (at_once error reading) later local most in
    ap₂ (λ (lo : ℤ). λ (hi : ℤ). let span : Interval = record { lo = lo; hi = hi } in span) formula.lower_end
    formula.upper_end

-- a factor and a time that are in range have a product that the divisor makes small
small : (factor d : ℕ) (time : ℤ) → factor ≤ 2 ^ 29 → unsigned_abs time ≤ 2 ^ 63 → 2 ^ 27 ≤ d
    → unsigned_abs (pos factor *ℤ time) ≤ 2 ^ 65 * d
small factor d time few short large =
    omega (
      arith,
      unsigned_abs-mul (pos factor) time,
      mul-le-mul_left factor short,
      mul-le-mul_right (2 ^ 63) few,
    )

pub is_near : (own : Local) (error reading later : ℕ) → IsLocal own → error ≤ max_error → reading ≤ later
    → later < LIMIT
    → (unsigned_abs (passed own error reading later).lo ≤ 2 ^ 67)
    × (unsigned_abs (passed own error reading later).hi ≤ 2 ^ 67)
is_near own error reading later local most order range =
    let since = pos later -ℤ pos (reading + 2 * own.precision + 1) in
    let until = pos (later + 2 * own.precision + 1) -ℤ pos reading in
    let least = pos (F - error) *ℤ since in
    let greatest = pos (F + error) *ℤ until in
    let low : unsigned_abs (floor_div least (F + own.error)) ≤ 2 ^ 65 =
    floor_div-within least (2 ^ 65) (F + own.error) (omega arith)
    (small (F - error) (F + own.error) since (omega arith) (omega (arith, ints)) (omega arith)) in
    let turned : unsigned_abs (neg_ℤ greatest) ≤ 2 ^ 65 * (F - own.error) =
    omega (
      arith,
      ints,
      small (F + error) (F - own.error) until (omega arith) (omega (arith, ints)) (omega arith),
    ) in
    let high : unsigned_abs (floor_div (neg_ℤ greatest) (F - own.error)) ≤ 2 ^ 65 =
    floor_div-within (neg_ℤ greatest) (2 ^ 65) (F - own.error) (omega arith) turned in
    (omega (arith, ints, low), omega (arith, ints, high))
