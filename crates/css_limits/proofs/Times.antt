-- True times: the longest and the shortest in which a clock goes on by so much.
use Rattle.std.proofs.Common.{◌≡◌, ℕ, ◌+◌, ◌-◌, ◌*◌, ◌/◌, ◌<◌, ◌≤◌, arith}
use Rattle.std.specs.Int.{div_ceil}
use Rattle.std.proofs.lemmas.Grind.{div_ceil_times}
use Rattle.std.proofs.lemmas.Nat.{div-add-mod', mod_below, le-div}
use Rattle.std.proofs.Math.Nat.{lt_of_mul-lt-mul_right, mul-le-mul_right}
use Rattle.css_model.specs.Numbers.{max_error}
use Rattle.css_model.specs.declared.TheConstants.{F}
use Rattle.css_limits.specs.Worlds.{longest, shortest, gone}

-- a quotient rounded down
pub record IsDown (number divisor quotient : ℕ) : Type 0 where
  pub reached : divisor * quotient ≤ number
  pub greatest : number < divisor * quotient + divisor

pub down_is : (n d : ℕ) → 0 < d → IsDown n d (n / d)
down_is n d p = record {
  reached = omega (arith, div-add-mod' n d);
  greatest = omega (arith, div-add-mod' n d, mod_below n d p);
}

-- a quotient rounded up
pub record IsUp (number divisor quotient : ℕ) : Type 0 where
  pub reached : number ≤ divisor * quotient
  pub least : divisor * quotient < number + divisor

pub up_is : (n d : ℕ) → 0 < d → IsUp n d (div_ceil n d)
up_is n d p =
    let both = div_ceil_times n d p in
    record { reached = omega (arith, both.0); least = omega (arith, both.1) }

-- a factor above 0 is cancelled
pub cancel_lt : (a b k : ℕ) → k * a < k * b → a < b
cancel_lt a b k h = lt_of_mul-lt-mul_right k (omega arith)

-- the longest time
pub longest_is : (error beyond : ℕ) → error < F → IsDown (F * beyond) (F - error) (longest error beyond)
unfolding longest
longest_is error beyond small = down_is (F * beyond) (F - error) (omega arith)

-- what is shorter by its inequality is shorter
pub longest-ge : (error beyond time : ℕ) → error < F → (F - error) * time ≤ F * beyond → time ≤ longest error beyond
unfolding longest
longest-ge error beyond time small h = le-div time (F * beyond) (F - error) (omega arith) (omega arith)

-- later readings come later
pub longest-mono : (error beyond more : ℕ) → error < F → beyond ≤ more → longest error beyond ≤ longest error more
longest-mono error beyond more small h =
    let here = longest_is error beyond small in
    longest-ge error more (longest error beyond) small (omega (arith, here.reached))

-- the shortest time
pub shortest_is : (error passed : ℕ) → IsUp (F * (passed - 1)) (F + error) (shortest error passed)
unfolding shortest
shortest_is error passed = up_is (F * (passed - 1)) (F + error) (omega arith)

-- what is longer by its inequality is longer
pub shortest-le : (error passed time : ℕ) → F * passed ≤ (F + error) * time + F → shortest error passed ≤ time
shortest-le error passed time h =
    let here = shortest_is error passed in
    let next : (F + error) * (time + 1) ≡ (F + error) * time + (F + error) = omega arith in
    let below : shortest error passed < time + 1 =
    cancel_lt (shortest error passed) (time + 1) (F + error) (omega (arith, here.least)) in
    omega arith

-- it is shorter than what passes by the clock
pub shortest-below : (error passed : ℕ) → shortest error passed ≤ passed - 1
shortest-below error passed = shortest-le error passed (passed - 1) (omega arith)

-- the parts of a time aren't much shorter than the whole
pub shortest-parts : (error first second : ℕ) → shortest error (first + second) ≤ shortest error first + second
shortest-parts error first second =
    let here = shortest_is error first in
    shortest-le error (first + second) (shortest error first + second) (omega (arith, here.reached))

-- how far the clock goes meanwhile
pub record IsGone (error passed time value : ℕ) : Type 0 where
  pub fast : (F + error) * time ≤ F * value
  pub near : F * value ≤ (F + error) * time + F
  pub enough : passed ≤ value
  pub exact : value ≤ passed + 1
  pub none : value ≤ 2 * passed

pub gone_is : (error passed : ℕ) → error ≤ max_error → IsGone error passed (shortest error passed) (gone error passed)
unfolding gone
gone_is error passed most =
    let x = shortest error passed in
    let c = div_ceil ((F + error) * x) F in
    let time = shortest_is error passed in
    let short = shortest-below error passed in
    let little : error * x ≤ max_error * x = mul-le-mul_right x most in
    let up = up_is ((F + error) * x) F (omega arith) in
    record {
      fast = omega (arith, up.reached);
      near = omega (arith, up.least, time.reached);
      enough = omega arith;
      exact = omega (arith, up.least, time.least);
      none = omega (arith, up.least, time.least);
    }
