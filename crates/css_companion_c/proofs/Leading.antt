-- The lead of a tick lies between the leads at both ends of a span of the wall clock.
use Rattle.std.proofs.Common.{ℕ, ◌+◌, ◌*◌, ◌≤◌, ◌<◌, ◌≡◌, ◌∙◌, arith, ap, sym, refl, subst, length, Bool, true, false}
use Rattle.std.specs.Prelude.{ℤ, pos, negsuc, neg_ℤ, int_lt, ◌-ℤ◌, ◌*ℤ◌, ◌≤ℤ◌, ◌<ℤ◌, unsigned_abs}
use Rattle.std.specs.Prelude.{Option, Some, Result, Ok, ◌&&◌, if◌then◌else◌}
use Rattle.std.proofs.Math.Nat.{mul-le-mul_left}
use Rattle.std.specs.Int.{int_min, int_max}
use Rattle.std.proofs.lemmas.Int.{ints, clamps}
use borrow.Author.Differences.{up, down, product_is}
use Rattle.css_num.specs.Spans.{Interval, Covers}
use Rattle.css_num.specs.Division.{floor_div, ceil_div}
use Rattle.css_num.proofs.Rounding.{times_pos-mono, times_negsuc-mono, IsFloor-floor_div, IsCeiling-ceil_div}
use Rattle.css_num.proofs.Rounding.{floor_div-within, floor_div-le-ceil_div}
use Rattle.css_clock.proofs.Goes.{times_nonneg-mono}
use Rattle.css_client.specs.Standing.{ContainsTheWall}
use Rattle.css_companion.specs.Standing.{Companion}
use Rattle.css_companion.specs.declared.knowledge.Timing.{Timing}
use Rattle.css_companion.specs.declared.report.Cause.{Cause}
use Rattle.css_companion_c.specs.Codes.{is_narrow, narrow_code, DONE, TOO_WIDE}
use Rattle.css_companion_c.specs.Leads.{lead_code, distance, gone, scaled_lead, lead_at, lead_of, IsBetween, IsLead}
use Rattle.css_companion_c.specs.Leads.{HoldsTheLead}
use Rattle.css_companion_c.specs.When.{GoesBy}
use Rattle.css_companion_c.specs.declared.reading.Ends.{Ends}
use Rattle.css_companion_c.proofs.Reached.{less_if, no_less_if}

-- a factor below zero turns the order round
times-falls : (x y k : ℤ) → k <ℤ pos 0 → x ≤ℤ y → (y *ℤ k) ≤ℤ (x *ℤ k)
times-falls x y (pos n) p h = absurd (omega (arith, ints))
times-falls x y (negsuc n) p h = times_negsuc-mono x y n h

-- what has gone at a value of a span is between what has gone at both ends
gone_by : (b : Bool) (timing : Timing) (span : Interval) (value : ℤ) → int_lt timing.speed (pos 0) ≡ b
    → Covers span value
    → (int_min (gone timing span.lo) (gone timing span.hi) ≤ℤ gone timing value)
    × (gone timing value ≤ℤ int_max (gone timing span.lo) (gone timing span.hi))
gone_by true timing span value back inside =
    let less = less_if timing.speed (pos 0) back in
    let first = times-falls (span.lo -ℤ pos timing.wall) (value -ℤ pos timing.wall) timing.speed less
    (omega (arith, ints, inside.low)) in
    let last = times-falls (value -ℤ pos timing.wall) (span.hi -ℤ pos timing.wall) timing.speed less
    (omega (arith, ints, inside.high)) in
    (omega (arith, ints, clamps, first, last), omega (arith, ints, clamps, first, last))
gone_by false timing span value forth inside =
    let more = no_less_if timing.speed (pos 0) forth in
    let first = times_nonneg-mono (span.lo -ℤ pos timing.wall) (value -ℤ pos timing.wall) timing.speed more
    (omega (arith, ints, inside.low)) in
    let last = times_nonneg-mono (value -ℤ pos timing.wall) (span.hi -ℤ pos timing.wall) timing.speed more
    (omega (arith, ints, inside.high)) in
    (omega (arith, ints, clamps, first, last), omega (arith, ints, clamps, first, last))

-- a quotient less a number, times the divisor, where the quotient is rounded down and the number isn't below another
under : (q m g far : ℤ) (d : ℕ) → (q *ℤ pos d) ≤ℤ far → g ≤ℤ m → ((q -ℤ m) *ℤ pos d) ≤ℤ (far -ℤ (g *ℤ pos d))
under q m g far d reached more =
    let parts : up (q -ℤ m) + (down q + up m) ≡ down (q -ℤ m) + (up q + down m) = omega (arith, ints) in
    let products = times_pos-mono g m d more in
    omega (
      arith,
      ints,
      reached,
      products,
      product_is (q -ℤ m) (pos d),
      product_is q (pos d),
      product_is m (pos d),
      ap (λ n. n * d) parts,
    )

-- the same where it is rounded up
over : (q m g far : ℤ) (d : ℕ) → far ≤ℤ (q *ℤ pos d) → m ≤ℤ g → (far -ℤ (g *ℤ pos d)) ≤ℤ ((q -ℤ m) *ℤ pos d)
over q m g far d reached less =
    let parts : up (q -ℤ m) + (down q + up m) ≡ down (q -ℤ m) + (up q + down m) = omega (arith, ints) in
    let products = times_pos-mono m g d less in
    omega (
      arith,
      ints,
      reached,
      products,
      product_is (q -ℤ m) (pos d),
      product_is q (pos d),
      product_is m (pos d),
      ap (λ n. n * d) parts,
    )

-- so the lead at a value of the span lies between both ends
pub lead_between : (timing : Timing) (tick : ℤ) (span : Interval) (value : ℤ) → 0 < timing.rate.units_per_second
    → Covers span value
    → (((lead_at timing tick span).lo *ℤ pos timing.rate.units_per_second) ≤ℤ scaled_lead timing tick value)
    × (scaled_lead timing tick value ≤ℤ ((lead_at timing tick span).hi *ℤ pos timing.rate.units_per_second))
lead_between timing tick span value positive inside =
    let units = timing.rate.units_per_second in
    let far = distance timing tick in
    let within = gone_by (int_lt timing.speed (pos 0)) timing span value refl inside in (
      under _ _ _ far units (IsFloor-floor_div far units positive).reached within.1,
      over _ _ _ far units (IsCeiling-ceil_div far units positive).reached within.0,
    )

-- a quotient isn't larger than its number
pub floor_div-near : (z : ℤ) (k d : ℕ) → 0 < d → unsigned_abs z ≤ k → unsigned_abs (floor_div z d) ≤ k
floor_div-near z k d positive small =
    let one : 1 ≤ d = omega arith in
    let more : k ≤ k * d = omega (arith, mul-le-mul_left k one) in
    floor_div-within z k d positive (omega arith)

-- nor where it is rounded up
pub ceil_div-near : (z : ℤ) (k d : ℕ) → 0 < d → unsigned_abs z ≤ k → unsigned_abs (ceil_div z d) ≤ k
ceil_div-near z k d positive small =
    let turned : unsigned_abs (neg_ℤ z) ≤ k = omega (arith, ints) in
    let near = floor_div-near (neg_ℤ z) k d positive turned in
    omega (arith, ints, near)

-- the ends are in order, since those of the span are
pub lead_ordered : (timing : Timing) (tick : ℤ) (span : Interval) → 0 < timing.rate.units_per_second
    → (lead_at timing tick span).lo ≤ℤ (lead_at timing tick span).hi
lead_ordered timing tick span positive =
    let quotients = floor_div-le-ceil_div (distance timing tick) timing.rate.units_per_second positive in
    omega (arith, ints, clamps, quotients)

-- the code of a lead is that of its ends
pub told_code : (span : Interval) (timing : Timing) (tick : ℤ) (lead : Interval) (fits : Bool)
    → lead ≡ lead_at timing tick span → fits ≡ (is_narrow lead.lo && is_narrow lead.hi)
    → (known : Option Interval) (goes : Result Timing Cause) → Some span ≡ known → Ok timing ≡ goes
    → (if fits then DONE else TOO_WIDE) ≡ lead_code known goes tick
told_code span timing tick lead fits same is known goes is_span is_timing =
    let code = if fits then DONE else TOO_WIDE in
    subst (λ (o : Option Interval). code ≡ lead_code o goes tick) is_span
    (subst (λ (r : Result Timing Cause). code ≡ lead_code (Some span) r tick) is_timing
    (subst (λ (i : Interval). code ≡ narrow_code i.lo i.hi) same
    (ap (λ (b : Bool). if b then DONE else TOO_WIDE) is)))

-- and its ends are told
pub told_lead : (span : Interval) (timing : Timing) (tick : ℤ) (lead ends : Interval)
    → lead ≡ lead_at timing tick span → lead ≡ ends
    → (known : Option Interval) (goes : Result Timing Cause) → Some span ≡ known → Ok timing ≡ goes
    → lead_of known goes tick ≡ Some ends
told_lead span timing tick lead ends same fits known goes is_span is_timing =
    ap (λ (o : Option Interval). lead_of o goes tick) (sym is_span)
    ∙ ap (λ (r : Result Timing Cause). lead_of (Some span) r tick) (sym is_timing) ∙ ap Some (sym same ∙ fits)

-- so what is told of a span that contains the wall clock holds the lead
pub holds : (companion : Companion) (reading : ℕ) (tick : ℤ) (span : Interval) (timing : Timing) (ends : Ends)
    → ContainsTheWall companion.client reading (Some span) → GoesBy timing companion
    → 0 < timing.rate.units_per_second → lead_at timing tick span ≡ record { lo = ends.lo; hi = ends.hi }
    → HoldsTheLead reading tick ends companion
holds companion reading tick span timing ends contains timed positive fits history errors world who moment_of known
    for explains =
    let inside = contains history errors world who moment_of known.client for explains in
    let wall = pos (world (moment_of (length history))).wall in
    let between = lead_between timing tick span wall positive (record { low = inside.0; high = inside.1 }) in
    let told : IsBetween ends timing tick wall =
    subst (λ (i : Interval). IsBetween (record { lo = i.lo; hi = i.hi }) timing tick wall) fits
    (record { low = between.0; high = between.1 }) in
    subst (λ (t : Result Timing Cause). IsLead ends t tick wall) (sym (timed history known)) told
