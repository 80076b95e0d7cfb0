-- The companion's clock from the landing on, when it runs at its fastest.
use Rattle.std.proofs.Common.{◌≡◌, ℕ, ◌+◌, ◌-◌, ◌*◌, ◌<◌, ◌≤◌, min, max, arith}
use Rattle.std.proofs.Math.Nat.{mul-le-mul_left, mul-le-mul_right}
use Rattle.css_model.specs.declared.TheConstants.{F}
use Rattle.css_model.specs.Numbers.{max_local_error}
use Rattle.css_model.specs.WallClock.{Answer, Local, IsLocal}
use Rattle.css_limits.specs.Worlds.{shortest, between_own, until_between, until_last}
use Rattle.css_limits.proofs.Times.{shortest_is, shortest-below, shortest-parts}

-- The clock shows `from` at the landing, `middle` after `short` and `to` after `long`.
pub record IsAfter (error from middle to short long : ℕ) : Type 0 where
  pub low : from ≤ middle
  pub high : middle ≤ to
  pub order : short ≤ long
  pub middle_early : short ≤ middle - from
  pub middle_late : F * middle ≤ F * from + (F + error) * short + F
  pub last_early : long ≤ to - from
  pub last_late : F * to ≤ F * from + (F + error) * long + F
  pub rest_early : long - short ≤ to - middle
  pub rest_late : F * to ≤ F * middle + (F + error) * (long - short) + F
  pub soon : (F + error) * long < F * (to - from) + F

-- what is below a bound for each of two numbers is below it for the greater
max_below : (a b bound k : ℕ) → k * a < bound → k * b < bound → k * max a b < bound
max_below a b bound k p q = grind arith

-- the times are as short as they can be
after_is : (error from middle to : ℕ) → error ≤ max_local_error → from ≤ middle → middle ≤ to → from < to
    → IsAfter error from middle to (shortest error (middle - from))
    (max (shortest error (to - from)) (shortest error (middle - from) + shortest error (to - middle)))
after_is error from middle to small low high apart =
    let x = shortest error (middle - from) in
    let y = shortest error (to - middle) in
    let z = shortest error (to - from) in
    let long = max z (x + y) in
    let first = shortest_is error (middle - from) in
    let second = shortest_is error (to - middle) in
    let whole = shortest_is error (to - from) in
    let first_below = shortest-below error (middle - from) in
    let second_below = shortest-below error (to - middle) in
    let whole_below = shortest-below error (to - from) in
    let sum : middle - from + (to - middle) ≡ to - from = omega arith in
    let parts : z ≤ x + (to - middle) =
    rw sum at (shortest-parts error (middle - from) (to - middle)) in
    let most_first : error * x ≤ max_local_error * x = mul-le-mul_right x small in
    let most_second : error * y ≤ max_local_error * y = mul-le-mul_right y small in
    let to_long : (F + error) * z ≤ (F + error) * long = mul-le-mul_left (F + error) (omega arith) in
    let to_rest : (F + error) * y ≤ (F + error) * (long - x) = mul-le-mul_left (F + error) (omega arith) in
    let soon_whole : (F + error) * z < F * (to - from) + F = omega (arith, whole.least) in
    let soon_parts : (F + error) * (x + y) < F * (to - from) + F =
    omega (arith, first.least, second.least, most_first, most_second) in
    record {
      low = low;
      high = high;
      order = omega arith;
      middle_early = omega arith;
      middle_late = omega (arith, first.reached);
      last_early = omega arith;
      last_late = omega (arith, whole.reached, to_long);
      rest_early = omega arith;
      rest_late = omega (arith, second.reached, to_rest);
      soon = max_below z (x + y) (F * (to - from) + F) (F + error) soon_whole soon_parts;
    }

-- so it is in the earliest world
pub earliest_after : (own : Local) (answer : Answer) (between reading : ℕ) → IsLocal own
    → answer.t4 + 2 * own.precision + 1 ≤ reading
    → IsAfter own.error (answer.t4 + own.precision) (between_own own answer between reading)
    (reading - own.precision)
    (until_between own answer between reading) (until_last own answer between reading)
unfolding between_own until_between until_last
earliest_after own answer between reading ranges late =
    after_is own.error (answer.t4 + own.precision)
    (min (max between (answer.t4 + own.precision)) (reading - own.precision)) (reading - own.precision)
    ranges.error (omega arith) (omega arith) (omega arith)

-- and the reading between reads it
pub between_own-near : (own : Local) (answer : Answer) (between reading : ℕ) → answer.t4 ≤ between → between ≤ reading
    → answer.t4 + 2 * own.precision + 1 ≤ reading
    → (between ≤ between_own own answer between reading + own.precision)
    × (between_own own answer between reading ≤ between + own.precision)
unfolding between_own
between_own-near own answer between reading low high late = omega arith
