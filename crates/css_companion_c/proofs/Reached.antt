-- At which values of the wall clock a tick is presented, and at which readings an answer allows them.
use Rattle.std.proofs.Common.{◌≡◌, ℕ, ◌+◌, ◌-◌, ◌*◌, ◌^◌, ◌≤◌, ◌<◌, ◌↔◌, ◌∙◌, arith, ap, sym, subst, refl}
use Rattle.std.proofs.Common.{true, false}
use Rattle.std.specs.Prelude.{ℤ, pos, negsuc, int_lt, ◌+ℤ◌, ◌-ℤ◌, ◌*ℤ◌, ◌≤ℤ◌, ◌<ℤ◌, unsigned_abs}
use Rattle.std.proofs.lemmas.Int.{ints, by_lt_z, unsigned_abs-mul}
use native.Mathlib.Nat.{mul-le-mul}
use borrow.Author.Differences.{up, down, product_is, same_in}
use Rattle.css_num.specs.Division.{ceil_div}
use Rattle.css_num.proofs.Rounding.{le-floor_div_iff, ceil_div-le_iff}
use Rattle.css_model.specs.declared.TheConstants.{LIMIT}
use Rattle.css_model.specs.WallClock.{Answer, Local, IsAnswer, IsLocal, lower, upper, lo, hi, scaled_width}
use Rattle.css_span.proofs.Nearness.{near-floor_div, near-ceil_div}
use Rattle.css_companion.specs.declared.knowledge.Timing.{Timing}
use Rattle.css_companion_c.specs.Leads.{distance}
use Rattle.css_companion_c.specs.When.{place, IsPresented}
use Rattle.css_companion_c.specs.declared.reaching.Stretch.{Stretch}

-- ---- tests
pub less_if : (a b : ℤ) → int_lt a b ≡ true → a <ℤ b
less_if a b h = omega (arith, ints, h)

pub no_less_if : (a b : ℤ) → int_lt a b ≡ false → b ≤ℤ a
no_less_if a b h = omega (arith, ints, h)

-- ---- a timeline
-- in so many nanoseconds, or more, a timeline with this factor goes this distance
abbrev pub IsNeeded : ℤ → ℤ → ℕ → Type 0
IsNeeded needed far factor =
    (passed : ℤ) → unsigned_abs passed ≤ 2 ^ 70 → (needed ≤ℤ passed) ↔ (far ≤ℤ (passed *ℤ pos factor))

-- the same of numbers that are equal
pub needed_same : (needed far other : ℤ) (factor same : ℕ) → far ≡ other → factor ≡ same → IsNeeded needed far factor
    → IsNeeded needed other same
needed_same needed far other factor same e f goes =
    subst (λ (z : ℤ). IsNeeded needed z same) e (subst (λ (n : ℕ). IsNeeded needed far n) f goes)

-- how far it goes in a nanosecond of the wall clock, either way
abbrev factor_of : Timing → ℕ
factor_of timing = timing.rate.units_per_second * unsigned_abs timing.speed

-- the ranges that matter here
pub record IsUsual (timing : Timing) : Type 0 where
  pub units : 0 < timing.rate.units_per_tick
  pub early : timing.wall < 2 ^ 63

-- a timeline is at a tick or beyond where it has gone the distance
le_place : (timing : Timing) (tick value : ℤ) → 0 < timing.rate.units_per_tick
    → (tick ≤ℤ place timing value) ↔ (distance timing tick
    ≤ℤ ((value -ℤ pos timing.wall) *ℤ (pos timing.rate.units_per_second *ℤ timing.speed)))
le_place timing tick value units =
    let iff = le-floor_div_iff
    ((value -ℤ pos timing.wall) *ℤ (pos timing.rate.units_per_second *ℤ timing.speed)) (tick -ℤ timing.content)
    (timing.rate.units_per_tick * 1000000000) (omega arith) in
    (λ h. iff.0 (omega (arith, ints, h)), λ h. let q = iff.1 h in omega (arith, ints, q))

-- the distance to the tick after
next_distance : (timing : Timing) (tick : ℤ)
    → distance timing (tick +ℤ pos 1) ≡ distance timing tick +ℤ pos (timing.rate.units_per_tick * 1000000000)
next_distance timing tick =
    let sum : up (tick +ℤ pos 1 -ℤ timing.content) + down (tick -ℤ timing.content)
    ≡ down (tick +ℤ pos 1 -ℤ timing.content) + (up (tick -ℤ timing.content) + 1) = omega (arith, ints) in
    same_in _ _ (omega (
      arith,
      ints,
      product_is (tick +ℤ pos 1 -ℤ timing.content) (pos (timing.rate.units_per_tick * 1000000000)),
      product_is (tick -ℤ timing.content) (pos (timing.rate.units_per_tick * 1000000000)),
      ap (λ k. k * (timing.rate.units_per_tick * 1000000000)) sum,
    ))

-- forward, it goes its factor in each nanosecond
forward : (x speed : ℤ) (units : ℕ) → pos 0 ≤ℤ speed
    → x *ℤ (pos units *ℤ speed) ≡ x *ℤ pos (units * unsigned_abs speed)
forward x (pos s) units h = refl
forward x (negsuc s) units h = absurd (omega (arith, ints))

-- backward, it goes as far in as many nanoseconds before
backward : (value wall speed : ℤ) (units : ℕ) → speed <ℤ pos 0
    → (value -ℤ wall) *ℤ (pos units *ℤ speed) ≡ (wall -ℤ value) *ℤ pos (units * unsigned_abs speed)
backward value wall (pos s) units h = absurd (omega (arith, ints))
backward value wall (negsuc s) units h =
    let turned : up (value -ℤ wall) + up (wall -ℤ value) ≡ down (value -ℤ wall) + down (wall -ℤ value) =
    omega (arith, ints) in
    let factor : up (pos units *ℤ negsuc s) + units * (s + 1) ≡ down (pos units *ℤ negsuc s) =
    omega (arith, ints, product_is (pos units) (negsuc s)) in
    same_in _ _ (omega (
      arith,
      ints,
      product_is (value -ℤ wall) (pos units *ℤ negsuc s),
      product_is (wall -ℤ value) (pos (units * (s + 1))),
      ap (λ n. n * (units * (s + 1))) turned,
      ap (λ n. up (value -ℤ wall) * n) factor,
      ap (λ n. down (value -ℤ wall) * n) factor,
    ))

-- so forward the tick is there where so many nanoseconds have passed
forward_iff : (timing : Timing) (tick needed value : ℤ) → pos 0 ≤ℤ timing.speed → IsUsual timing
    → IsNeeded needed (distance timing tick) (factor_of timing) → unsigned_abs value ≤ 2 ^ 69
    → (needed ≤ℤ (value -ℤ pos timing.wall)) ↔ (tick ≤ℤ place timing value)
forward_iff timing tick needed value forth usual goes near =
    let passed = goes (value -ℤ pos timing.wall) (omega (arith, ints)) in
    let there = le_place timing tick value usual.units in
    let same = forward (value -ℤ pos timing.wall) timing.speed timing.rate.units_per_second forth in (
      λ h. there.1 (subst (λ (z : ℤ). distance timing tick ≤ℤ z) (sym same) (passed.0 h)),
      λ h. passed.1 (subst (λ (z : ℤ). distance timing tick ≤ℤ z) same (there.0 h)),
    )

-- and backward where as many are still to pass
backward_iff : (timing : Timing) (tick needed value : ℤ) → timing.speed <ℤ pos 0 → IsUsual timing
    → IsNeeded needed (distance timing tick) (factor_of timing) → unsigned_abs value ≤ 2 ^ 69
    → (needed ≤ℤ (pos timing.wall -ℤ value)) ↔ (tick ≤ℤ place timing value)
backward_iff timing tick needed value back usual goes near =
    let passed = goes (pos timing.wall -ℤ value) (omega (arith, ints)) in
    let there = le_place timing tick value usual.units in
    let same = backward value (pos timing.wall) timing.speed timing.rate.units_per_second back in (
      λ h. there.1 (subst (λ (z : ℤ). distance timing tick ≤ℤ z) (sym same) (passed.0 h)),
      λ h. passed.1 (subst (λ (z : ℤ). distance timing tick ≤ℤ z) same (there.0 h)),
    )

-- the values that follow, forward
pub presented_forward : (timing : Timing) (tick come passed : ℤ) (values : Stretch)
    → int_lt timing.speed (pos 0) ≡ false → IsUsual timing → IsNeeded come (distance timing tick) (factor_of timing)
    → IsNeeded passed (distance timing tick +ℤ pos (timing.rate.units_per_tick * 1000000000)) (factor_of timing)
    → values.from ≡ pos timing.wall +ℤ come → values.end ≡ pos timing.wall +ℤ passed
    → IsPresented timing tick values
presented_forward timing tick come passed values forth usual at_tick at_next from end =
    let more = no_less_if timing.speed (pos 0) forth in
    let next = subst (λ (z : ℤ). IsNeeded passed z (factor_of timing)) (sym (next_distance timing tick)) at_next in
    record {
      from = λ value near.
          let iff = forward_iff timing tick come value more usual at_tick near in
          rw forth (λ h. iff.0 (omega (arith, ints)), λ h. let q = iff.1 h in omega (arith, ints));
      end = λ value near.
          let iff = forward_iff timing (tick +ℤ pos 1) passed value more usual next near in
          rw forth (
            λ h. let q = iff.0 (omega (arith, ints)) in omega (arith, ints),
            λ h. let q = iff.1 (omega (arith, ints)) in omega (arith, ints),
          );
    }

-- and backward
pub presented_backward : (timing : Timing) (tick come passed : ℤ) (values : Stretch)
    → int_lt timing.speed (pos 0) ≡ true → IsUsual timing → IsNeeded come (distance timing tick) (factor_of timing)
    → IsNeeded passed (distance timing tick +ℤ pos (timing.rate.units_per_tick * 1000000000)) (factor_of timing)
    → values.from ≡ pos (timing.wall + 1) -ℤ passed → values.end ≡ pos (timing.wall + 1) -ℤ come
    → IsPresented timing tick values
presented_backward timing tick come passed values back usual at_tick at_next from end =
    let less = less_if timing.speed (pos 0) back in
    let next = subst (λ (z : ℤ). IsNeeded passed z (factor_of timing)) (sym (next_distance timing tick)) at_next in
    record {
      from = λ value near.
          let iff = backward_iff timing (tick +ℤ pos 1) passed value less usual next near in
          rw back (turned values.from value passed (place timing value) timing.wall tick from iff);
      end = λ value near.
          let iff = backward_iff timing tick come value less usual at_tick near in
          rw back (turned_end values.end value come (place timing value) timing.wall tick end iff);
    }
  where
    turned : (from value passed at : ℤ) (wall : ℕ) (tick : ℤ) → from ≡ pos (wall + 1) -ℤ passed
        → (passed ≤ℤ (pos wall -ℤ value)) ↔ ((tick +ℤ pos 1) ≤ℤ at) → (from ≤ℤ value) ↔ (at ≤ℤ tick)
    turned from value passed at wall tick is iff = (
      λ h. by_lt_z {P = at ≤ℤ tick} tick at
          (λ less. let q = iff.1 (omega (arith, ints)) in absurd (omega (arith, ints)))
          (λ more. more),
      λ h. by_lt_z {P = from ≤ℤ value} (pos wall -ℤ value) passed (λ less. omega (arith, ints))
          (λ more. let q = iff.0 more in absurd (omega (arith, ints))),
    )

    turned_end : (end value come at : ℤ) (wall : ℕ) (tick : ℤ) → end ≡ pos (wall + 1) -ℤ come
        → (come ≤ℤ (pos wall -ℤ value)) ↔ (tick ≤ℤ at) → (end ≤ℤ value) ↔ (at <ℤ tick)
    turned_end end value come at wall tick is iff = (
      λ h. by_lt_z {P = at <ℤ tick} at tick (λ less. less)
          (λ more. let q = iff.1 more in absurd (omega (arith, ints))),
      λ h. by_lt_z {P = end ≤ℤ value} (pos wall -ℤ value) come (λ less. omega (arith, ints))
          (λ more. let q = iff.0 more in absurd (omega (arith, ints))),
    )

-- ---- an answer
-- a quotient rounded up, as a function answers it
pub quotient_iff : (z number q quotient times : ℤ) (d divisor : ℕ) → q ≡ ceil_div z d → z ≡ number → d ≡ divisor
    → quotient ≡ q → 0 < divisor → (quotient ≤ℤ times) ↔ (number ≤ℤ (times *ℤ pos divisor))
quotient_iff z number q quotient times d divisor is same equal told positive =
    let exact : quotient ≡ ceil_div number divisor =
    told ∙ is ∙ ap (λ (x : ℤ). ceil_div x d) same ∙ ap (ceil_div number) equal in
    subst (λ (x : ℤ). (x ≤ℤ times) ↔ (number ≤ℤ (times *ℤ pos divisor))) (sym exact)
    (ceil_div-le_iff number times divisor positive)

-- so often, or more, a divisor goes into a number
abbrev pub GoesInto : ℤ → ℤ → ℕ → Type 0
GoesInto least number divisor = (times : ℤ) → (least ≤ℤ times) ↔ (number ≤ℤ (times *ℤ pos divisor))

-- the same of numbers that are equal
pub into_same : (least number other : ℤ) (divisor same : ℕ) → number ≡ other → divisor ≡ same
    → GoesInto least number divisor → GoesInto least other same
into_same least number other divisor same e f goes =
    subst (λ (z : ℤ). GoesInto least z same) e (subst (λ (n : ℕ). GoesInto least number n) f goes)

-- the upper end is at least a value from a reading on
pub upper_iff : (own : Local) (answer : Answer) (value passed begin : ℤ) → own.error < 256000000
    → GoesInto passed (((value +ℤ pos 0) -ℤ pos (answer.t2 + answer.precision + 2)) *ℤ pos (256000000 - own.error)
    +ℤ pos 1) (256000000 + answer.error)
    → begin ≡ (passed +ℤ pos answer.t1) -ℤ pos (2 * own.precision + 1) → (reading : ℕ)
    → (begin ≤ℤ pos reading) ↔ (value ≤ℤ hi own answer reading)
unfolding hi upper
upper_iff own answer value passed begin ranges goes is reading =
    let iff = goes (pos (reading + 2 * own.precision + 1) -ℤ pos answer.t1) in
    let up_to = ceil_div-le_iff (upper own answer reading) (value -ℤ pos 1) (256000000 - own.error) (omega arith) in
    let parts : up ((value +ℤ pos 0) -ℤ pos (answer.t2 + answer.precision + 2)) + (answer.t2 + answer.precision + 1)
    + down (value -ℤ pos 1) ≡ down ((value +ℤ pos 0) -ℤ pos (answer.t2 + answer.precision + 2))
    + up (value -ℤ pos 1) = omega (arith, ints) in
    let products = ap (λ n. n * (256000000 - own.error)) parts in
    let first = product_is ((value +ℤ pos 0) -ℤ pos (answer.t2 + answer.precision + 2)) (pos (256000000 - own.error)) in
    let second = product_is (value -ℤ pos 1) (pos (256000000 - own.error)) in
    let third = product_is (pos (reading + 2 * own.precision + 1) -ℤ pos answer.t1) (pos (256000000 + answer.error)) in
    let fourth = product_is (pos (256000000 + answer.error))
    (pos (reading + 2 * own.precision + 1) -ℤ pos answer.t1) in (
      λ h. let q = iff.0 (omega (arith, ints)) in
          by_lt_z {P = value ≤ℤ hi own answer reading} (hi own answer reading) value
          (λ less. let r = up_to.0 (omega (arith, ints)) in absurd (omega (arith, ints)))
          (λ more. more),
      λ h. by_lt_z {P = begin ≤ℤ pos reading} (pos reading) begin
          (λ less. let r = up_to.1 (by_lt_z {P = upper own answer reading ≤ℤ ((value -ℤ pos 1) *ℤ pos (256000000
          - own.error))} ((value -ℤ pos 1) *ℤ pos (256000000 - own.error)) (upper own answer reading)
          (λ below. let q = iff.1 (omega (arith, ints)) in absurd (omega (arith, ints)))
          (λ above. above)) in absurd (omega (arith, ints)))
          (λ more. more),
    )

-- and the lower end
pub lower_iff : (own : Local) (answer : Answer) (value passed begin : ℤ)
    → GoesInto passed (((value +ℤ pos (answer.precision + 1)) -ℤ pos answer.t3) *ℤ pos (256000000 + own.error))
    (256000000 - answer.error)
    → begin ≡ (passed +ℤ pos (answer.t4 + 2 * own.precision + 1)) -ℤ pos 0 → (reading : ℕ)
    → (begin ≤ℤ pos reading) ↔ (value ≤ℤ lo own answer reading)
unfolding lo lower
lower_iff own answer value passed begin goes is reading =
    let iff = goes (pos reading -ℤ pos (answer.t4 + 2 * own.precision + 1)) in
    let up_to = le-floor_div_iff (lower own answer reading) value (256000000 + own.error) (omega arith) in
    let parts : up ((value +ℤ pos (answer.precision + 1)) -ℤ pos answer.t3)
    + up (pos answer.t3 -ℤ pos (answer.precision + 1)) + down value
    ≡ down ((value +ℤ pos (answer.precision + 1)) -ℤ pos answer.t3)
    + down (pos answer.t3 -ℤ pos (answer.precision + 1)) + up value = omega (arith, ints) in
    let products = ap (λ n. n * (256000000 + own.error)) parts in
    let first = product_is ((value +ℤ pos (answer.precision + 1)) -ℤ pos answer.t3) (pos (256000000 + own.error)) in
    let second = product_is value (pos (256000000 + own.error)) in
    let third = product_is (pos reading -ℤ pos (answer.t4 + 2 * own.precision + 1)) (pos (256000000 - answer.error)) in
    let fourth = product_is (pos (256000000 - answer.error)) (pos reading -ℤ pos (answer.t4 + 2 * own.precision + 1)) in
    let fifth = product_is (pos (256000000 + own.error)) (pos answer.t3 -ℤ pos (answer.precision + 1)) in (
      λ h. let q = iff.0 (omega (arith, ints)) in up_to.1 (omega (arith, ints)),
      λ h. let q = up_to.0 h in let r = iff.1 (omega (arith, ints)) in omega (arith, ints),
    )

-- ---- near ends
product-near : (a b : ℤ) (m n : ℕ) → unsigned_abs a ≤ m → unsigned_abs b ≤ n → unsigned_abs (a *ℤ b) ≤ m * n
product-near a b m n p q = subst (λ (k : ℕ). k ≤ m * n) (sym (unsigned_abs-mul a b)) (mul-le-mul p q)

upper-near : (own : Local) (answer : Answer) (reading : ℕ) → IsLocal own → IsAnswer answer → reading < LIMIT
    → unsigned_abs (upper own answer reading) ≤ 2 ^ 94
unfolding upper
upper-near own answer reading local ranges range =
    let received = product-near (pos (256000000 - own.error)) (pos (answer.t2 + answer.precision + 1)) (2 ^ 28) (2 ^ 64)
    (omega (arith, ints)) (omega (arith, ints, ranges.t2, ranges.precision)) in
    let since = product-near (pos (256000000 + answer.error))
    (pos (reading + 2 * own.precision + 1) -ℤ pos answer.t1) (2 ^ 29) (2 ^ 64)
    (omega (arith, ints, ranges.error)) (omega (arith, ints, ranges.t1, local.precision)) in
    omega (arith, ints, received, since)

lower-near : (own : Local) (answer : Answer) (reading : ℕ) → IsLocal own → IsAnswer answer → reading < LIMIT
    → unsigned_abs (lower own answer reading) ≤ 2 ^ 94
unfolding lower
lower-near own answer reading local ranges range =
    let sent = product-near (pos (256000000 + own.error))
    (pos answer.t3 -ℤ pos (answer.precision + 1)) (2 ^ 29) (2 ^ 64)
    (omega (arith, ints, local.error)) (omega (arith, ints, ranges.t3, ranges.precision)) in
    let since = product-near (pos (256000000 - answer.error))
    (pos reading -ℤ pos (answer.t4 + 2 * own.precision + 1)) (2 ^ 28) (2 ^ 64)
    (omega (arith, ints)) (omega (arith, ints, ranges.t4, local.precision)) in
    omega (arith, ints, sent, since)

pub hi-near : (own : Local) (answer : Answer) (reading : ℕ) → IsLocal own → IsAnswer answer → reading < LIMIT
    → unsigned_abs (hi own answer reading) ≤ 2 ^ 68
unfolding hi
hi-near own answer reading local ranges range =
    near-ceil_div (upper own answer reading) (256000000 - own.error) (omega (arith, local.error))
    (omega (arith, ints, upper-near own answer reading local ranges range, local.error))

pub lo-near : (own : Local) (answer : Answer) (reading : ℕ) → IsLocal own → IsAnswer answer → reading < LIMIT
    → unsigned_abs (lo own answer reading) ≤ 2 ^ 68
unfolding lo
lo-near own answer reading local ranges range =
    near-floor_div (lower own answer reading) (256000000 + own.error) (omega arith)
    (omega (arith, ints, lower-near own answer reading local ranges range))

pub width-near : (own : Local) (answer : Answer) (reading : ℕ) → IsLocal own → IsAnswer answer → reading < LIMIT
    → unsigned_abs (scaled_width own answer reading) ≤ 2 ^ 123
unfolding scaled_width
width-near own answer reading local ranges range =
    let high = product-near (upper own answer reading) (pos (256000000 + own.error)) (2 ^ 94) (2 ^ 28)
    (upper-near own answer reading local ranges range) (omega (arith, ints, local.error)) in
    let low = product-near (lower own answer reading) (pos (256000000 - own.error)) (2 ^ 94) (2 ^ 28)
    (lower-near own answer reading local ranges range) (omega (arith, ints)) in
    omega (arith, ints, high, low)
