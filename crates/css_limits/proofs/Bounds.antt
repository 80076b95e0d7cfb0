-- How near the two worlds come to the ends of the span.
use Rattle.std.proofs.Common.{◌≡◌, ℕ, zero, suc, ◌+◌, ◌-◌, ◌*◌, ◌/◌, ◌<◌, ◌≤◌, arith, ap}
use Rattle.std.specs.Prelude.{ℤ, pos, ◌+ℤ◌, ◌-ℤ◌, ◌*ℤ◌, ◌≤ℤ◌}
use Rattle.std.specs.Int.{div_ceil}
use Rattle.std.proofs.lemmas.Int.{ints}
use Rattle.std.proofs.Math.Nat.{mul-le-mul_left, le_of_mul-le-mul_left}
use borrow.Author.Differences.{same_in}
use Rattle.css_model.specs.declared.TheConstants.{F}
use Rattle.css_model.specs.Numbers.{floor_div, ceil_div}
use Rattle.css_model.specs.WallClock.{Answer, Local, lo, hi}
use Rattle.css_model.proofs.Division.{times_difference}
use Rattle.css_model.proofs.Standard.{spans_are_the_standard}
use Rattle.css_limits.specs.Worlds.{since_asked, earliest_received, latest_last, earliest_last, until_last}
use Rattle.css_limits.proofs.Times.{IsDown, IsUp, down_is, up_is, longest_is, gone_is, cancel_lt}
use Rattle.css_limits.proofs.Open.{IsOpen}
use Rattle.css_limits.proofs.After.{earliest_after}

-- a difference of naturals that isn't below zero, times a natural
times_natural : (c r m : ℕ) → m ≤ r → pos c *ℤ (pos r -ℤ pos m) ≡ pos (c * (r - m))
times_natural c r m order =
    let parts : c * (r - m + m) ≡ c * r = ap (λ n. c * n) (the_sum r m order) in
    same_in (pos c *ℤ (pos r -ℤ pos m)) (pos (c * (r - m))) (omega (arith, ints, times_difference c r m, parts))
  where
    the_sum : (r m : ℕ) → m ≤ r → r - m + m ≡ r
    the_sum r m order = omega arith

-- a natural that is rounded up isn't above what a multiple shows
ceil_natural-le : (n d w : ℕ) → 0 < d → n ≤ d * w → ceil_div (pos n) d ≤ℤ pos w
ceil_natural-le zero d w p h = omega (arith, ints)
ceil_natural-le (suc m) d w p h =
    let down = down_is m d p in
    let below : m / d < w = cancel_lt (m / d) w d (omega (arith, down.reached)) in
    omega (arith, ints)

-- what is lost at the lower end
low_loss : (slow fast passed time up down : ℕ) → slow ≤ fast → 0 < fast
    → fast * time < F * passed + 2 * F → IsUp (slow * time) F up → IsDown (slow * passed) fast down → up ≤ down + 3
low_loss slow fast passed time up down order above soon is_up is_down =
    let whole : slow * (fast * time) ≤ slow * (F * passed + 2 * F) = mul-le-mul_left slow (omega arith) in
    let part : fast * (slow * time) < fast * (F * (down + 3)) =
    omega (arith, whole, is_down.greatest) in
    let below : slow * time < F * (down + 3) = cancel_lt (slow * time) (F * (down + 3)) fast part in
    omega (arith, below, is_up.least)

-- what is lost at the upper end
high_loss : (slow fast beyond time down : ℕ) → fast ≤ 2 * F
    → IsDown (F * beyond) slow time → IsDown (fast * time) F down → fast * beyond ≤ slow * (down + 3)
high_loss slow fast beyond time down small is_time is_down =
    let whole : fast * (F * beyond) ≤ fast * (slow * time + slow) =
    mul-le-mul_left fast (omega (arith, is_time.greatest)) in
    let part : slow * (fast * time) ≤ slow * (F * down + F) =
    mul-le-mul_left slow (omega (arith, is_down.greatest)) in
    let last : slow * fast ≤ slow * (2 * F) = mul-le-mul_left slow small in
    le_of_mul-le-mul_left {m = fast * beyond} {n = slow * (down + 3)} {k = F} (omega (arith, whole, part, last))
    (omega arith)

-- the greatest value is near the upper end
pub latest-high : (own : Local) (answer : Answer) (reading : ℕ) → IsOpen own answer → answer.t4 ≤ reading
    → (hi own answer reading -ℤ pos 4) ≤ℤ pos (latest_last own answer reading).wall
latest-high own answer reading given late =
    let ranges = given.ranges in
    let beyond = reading + 2 * own.precision + 1 - answer.t1 in
    let time = since_asked own answer reading in
    let fast = F + answer.error in
    let down = down_is (fast * time) F (omega arith) in
    let is_time = longest_is own.error beyond (omega (arith, ranges.error)) in
    let bound = high_loss (F - own.error) fast beyond time (fast * time / F) (omega (arith, given.error)) is_time
    down in
    let span = spans_are_the_standard own answer reading ranges given.error in
    let natural = times_natural fast (reading + 2 * own.precision + 1) answer.t1 (omega (arith, given.order)) in
    let rounded : ceil_div (pos fast *ℤ (pos (reading + 2 * own.precision + 1) -ℤ pos answer.t1)) (F - own.error)
    ≤ℤ pos (fast * time / F + 3) =
    rw natural (ceil_natural-le (fast * beyond) (F - own.error) (fast * time / F + 3) (omega (arith, ranges.error))
    bound) in
    rw span.upper_end (omega (arith, ints, rounded))

-- the least value is near the lower end
pub earliest-low : (own : Local) (answer : Answer) (between reading : ℕ) → IsOpen own answer
    → answer.t4 + 2 * own.precision + 1 ≤ reading
    → pos (earliest_last own answer between reading).wall ≤ℤ (lo own answer reading +ℤ pos 4)
earliest-low own answer between reading given late =
    let ranges = given.ranges in
    let passed = reading - (answer.t4 + 2 * own.precision + 1) in
    let time = until_last own answer between reading in
    let slow = F - answer.error in
    let went = gone_is answer.error (answer.t3 - answer.precision - earliest_received answer) given.error in
    let clock = earliest_after own answer between reading ranges late in
    let up = up_is (slow * time) F (omega arith) in
    let down = down_is (slow * passed) (F + own.error) (omega arith) in
    let bound = low_loss slow (F + own.error) passed time (div_ceil (slow * time) F)
    (slow * passed / (F + own.error)) (omega arith) (omega arith) (omega (arith, clock.soon)) up down in
    let span = spans_are_the_standard own answer reading ranges given.error in
    let natural = times_natural slow reading (answer.t4 + 2 * own.precision + 1) late in
    let whole : floor_div (pos slow *ℤ (pos reading -ℤ pos (answer.t4 + 2 * own.precision + 1))) (F + own.error)
    ≡ pos (slow * passed / (F + own.error)) = ap (λ (z : ℤ). floor_div z (F + own.error)) natural in
    rw span.lower_end (omega (arith, ints, whole, bound, went.exact, given.t2, given.t3))
