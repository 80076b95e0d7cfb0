-- A step up has each value of the parent at which the clock reads a tick of the span.
use Rattle.std.proofs.Common.{◌≡◌, ℕ, ◌*◌, ◌<◌, refl, ap, arith, Bool, true, false, mul-pos}
use Rattle.std.specs.Prelude.{ℤ, pos, negsuc, ◌+ℤ◌, ◌-ℤ◌, ◌*ℤ◌, neg_ℤ, ◌≤ℤ◌, ◌<ℤ◌, int_lt, unsigned_abs, if◌then◌else◌}
use Rattle.std.proofs.lemmas.Int.{ints}
use borrow.Author.Differences.{up, down, product_is, neg_is, same_in, lt-false}
use Rattle.css_num.specs.Rates.{IsTickRate}
use Rattle.css_num.specs.Division.{floor_div, ceil_div}
use Rattle.css_num.specs.Spans.{Interval, Covers}
use Rattle.css_num.proofs.Rounding.{floor_div_times-le, lt-floor_div_next_times, le_of_times-le, times_pos-mono}
use Rattle.css_num.proofs.Rounding.{le-floor_div_iff, IsCeiling-ceil_div}
use Rattle.css_tree.specs.declared.node.Gear.{Gear}
use Rattle.css_clock.specs.Ticks.{factor_of, divisor_of}
use Rattle.css_tree.specs.Trees.{gear_value}
use Rattle.css_tree.specs.Conversions.{magnitude_of, scaled_span, outward_by, outward}

-- where a multiple of a number, divided, is a tick or more, the number is the tick's quotient rounded down or more
quotient-least : (z k : ℤ) (d m : ℕ) → 0 < d → 0 < m → k ≤ℤ floor_div (z *ℤ pos m) d → floor_div (k *ℤ pos d) m ≤ℤ z
quotient-least z k d m p q h =
    let products = (le-floor_div_iff (z *ℤ pos m) k d p).0 h in
    let quotient = floor_div_times-le (k *ℤ pos d) m q in
    le_of_times-le (floor_div (k *ℤ pos d) m) z m q (omega (arith, ints, products, quotient))

-- where it is below the tick, the number is the tick's quotient rounded up or less
quotient-most : (z k : ℤ) (d m : ℕ) → 0 < d → 0 < m → floor_div (z *ℤ pos m) d <ℤ k → z ≤ℤ ceil_div (k *ℤ pos d) m
quotient-most z k d m p q h =
    let next : (floor_div (z *ℤ pos m) d +ℤ pos 1) ≤ℤ k = omega (arith, ints) in
    let above = lt-floor_div_next_times (z *ℤ pos m) d p in
    let products = times_pos-mono (floor_div (z *ℤ pos m) d +ℤ pos 1) k d next in
    let ceiling = IsCeiling-ceil_div (k *ℤ pos d) m q in
    le_of_times-le z (ceil_div (k *ℤ pos d) m) m q (omega (arith, ints, above, products, ceiling.reached))

-- a factor above zero is its magnitude
factor-positive : (n : ℕ) (speed : ℤ) → int_lt (pos 0) speed ≡ true → (pos n *ℤ speed) ≡ pos (n * unsigned_abs speed)
factor-positive n (pos s) e = same_in (pos n *ℤ pos s) (pos (n * s)) (omega (arith, product_is (pos n) (pos s)))
factor-positive n (negsuc s) e = cc

-- one that isn't is below zero by it
factor-negative : (n : ℕ) (speed : ℤ) → int_lt (pos 0) speed ≡ false → (up (pos n *ℤ speed) ≡ 0)
    × (down (pos n *ℤ speed) ≡ n * unsigned_abs speed)
factor-negative n (pos s) e =
    let zero_speed : s ≡ 0 = omega (arith, lt-false (pos 0) (pos s) e) in
    let zero_product : n * s ≡ n * 0 = ap (λ k. n * k) zero_speed in
    (omega (arith, product_is (pos n) (pos s), zero_product), omega (arith, product_is (pos n) (pos s), zero_product))
factor-negative n (negsuc s) e =
    (omega (arith, product_is (pos n) (negsuc s)), omega (arith, product_is (pos n) (negsuc s)))

-- a product with such a factor is the product of the magnitude and the number with the other sign
times-turned : (z factor : ℤ) (m : ℕ) → up factor ≡ 0 → down factor ≡ m → (z *ℤ factor) ≡ (neg_ℤ z *ℤ pos m)
times-turned z factor m p q =
    same_in (z *ℤ factor) (neg_ℤ z *ℤ pos m)
    (omega (
      arith,
      product_is z factor,
      product_is (neg_ℤ z) (pos m),
      ap (λ k. up z * k) p,
      ap (λ k. down z * k) p,
      ap (λ k. up z * k) q,
      ap (λ k. down z * k) q,
      ap (λ k. k * m) (neg_is z).0,
      ap (λ k. k * m) (neg_is z).1,
    ))

-- the number with the other sign of the number with the other sign
turned-back : (z : ℤ) → neg_ℤ (neg_ℤ z) ≡ z
turned-back z = same_in (neg_ℤ (neg_ℤ z)) z (omega (arith, ints))

-- where the clock goes along its parent
along : (u parent_ticks child_ticks : ℤ) (d m : ℕ) (span : Interval) → 0 < d → 0 < m
    → Covers span (child_ticks +ℤ floor_div ((u -ℤ parent_ticks) *ℤ pos m) d)
    → Covers (outward_by (scaled_span span child_ticks (pos d)) m parent_ticks) u
along u parent_ticks child_ticks d m span p q inside =
    let least = quotient-least (u -ℤ parent_ticks) (span.lo -ℤ child_ticks) d m p q (omega (arith, ints, inside.low)) in
    let most =
    quotient-most (u -ℤ parent_ticks) (span.hi +ℤ pos 1 -ℤ child_ticks) d m p q (omega (arith, ints, inside.high)) in
    record { low = omega (arith, ints, least); high = omega (arith, ints, most) }

-- where it goes against its parent
against : (u parent_ticks child_ticks factor : ℤ) (d m : ℕ) (span : Interval) → 0 < d → 0 < m → up factor ≡ 0
    → down factor ≡ m
    → Covers span (child_ticks +ℤ floor_div ((u -ℤ parent_ticks) *ℤ factor) d)
    → Covers
    (outward_by (record {
      lo = neg_ℤ (scaled_span span child_ticks (pos d)).hi;
      hi =
          neg_ℤ (scaled_span span child_ticks (pos d)).lo;
    }) m parent_ticks) u
against u parent_ticks child_ticks factor d m span p q e f inside =
    let turned = rw (times-turned (u -ℤ parent_ticks) factor m e f) at inside in
    let least =
    quotient-least (neg_ℤ (u -ℤ parent_ticks)) (span.lo -ℤ child_ticks) d m p q (omega (arith, ints, turned.low)) in
    let most =
    quotient-most (neg_ℤ (u -ℤ parent_ticks)) (span.hi +ℤ pos 1 -ℤ child_ticks) d m p q
    (omega (arith, ints, turned.high)) in
    let back : floor_div (neg_ℤ (neg_ℤ ((span.lo -ℤ child_ticks) *ℤ pos d))) m ≡ floor_div ((span.lo -ℤ child_ticks)
    *ℤ pos d) m = ap (λ (z : ℤ). floor_div z m) (turned-back ((span.lo -ℤ child_ticks) *ℤ pos d)) in
    record { low = omega (arith, ints, most); high = omega (arith, ints, least, back) }

-- what holds of both sides of a test holds of what it chooses
chosen : (Holds : Interval → Type 0) (test : Bool) (first second : Interval) → (test ≡ true → Holds first)
    → (test ≡ false → Holds second) → Holds (if test then first else second)
chosen Holds true first second p q = p refl
chosen Holds false first second p q = q refl

-- a step up has each value of the parent at which a clock that moves reads a tick of the span
pub outward-covers : (gear : Gear) (span : Interval) (u : ℤ) → IsTickRate gear.rate → IsTickRate gear.parent_rate
    → 0 < unsigned_abs gear.link.speed
    → Covers span (gear_value gear u) → Covers (outward gear span) u
outward-covers gear span u own parent moving inside =
    let units = gear.rate.units_per_second * gear.parent_rate.units_per_tick in
    let divisor : 0 < divisor_of gear.rate gear.parent_rate =
    mul-pos (omega (arith, own.tick_positive)) (omega (arith, parent.second_positive)) in
    let positive : 0 < units = mul-pos (omega (arith, own.second_positive)) (omega (arith, parent.tick_positive)) in
    let magnitude : 0 < magnitude_of gear.rate gear.parent_rate gear.link.speed = mul-pos positive moving in
    let scaled = scaled_span span gear.link.child_ticks (pos (divisor_of gear.rate gear.parent_rate)) in
    chosen (λ (of : Interval).
    Covers (outward_by of (magnitude_of gear.rate gear.parent_rate gear.link.speed) gear.link.parent_ticks) u)
    (int_lt (pos 0) gear.link.speed) scaled (record { lo = neg_ℤ scaled.hi; hi = neg_ℤ scaled.lo })
    (λ e.
    along u gear.link.parent_ticks gear.link.child_ticks (divisor_of gear.rate gear.parent_rate)
    (magnitude_of gear.rate gear.parent_rate gear.link.speed) span divisor magnitude
    (rw (factor-positive units gear.link.speed e) at inside))
    (λ e. let factor = factor-negative units gear.link.speed e in
    against u gear.link.parent_ticks gear.link.child_ticks (factor_of gear.rate gear.parent_rate gear.link.speed)
    (divisor_of gear.rate gear.parent_rate) (magnitude_of gear.rate gear.parent_rate gear.link.speed) span divisor
    magnitude factor.0 factor.1 inside)
