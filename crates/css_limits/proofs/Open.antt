-- What an exchange that can have happened leaves given, over plain numbers.
use Rattle.std.proofs.Common.{ℕ, ◌+◌, ◌-◌, ◌*◌, ◌≤◌, arith}
use Rattle.std.proofs.Math.Nat.{mul-le-mul_left}
use Rattle.css_model.specs.declared.TheConstants.{F}
use Rattle.css_model.specs.Numbers.{max_error}
use Rattle.css_model.specs.WallClock.{Answer, Local, IsLocal}
use Rattle.css_limits.specs.Worlds.{shortest, since_asked}
use Rattle.css_limits.proofs.Times.{longest-ge, shortest-le}

-- An exchange whose turnaround, of some true time, fits into its round trip.
pub record IsOpen (own : Local) (answer : Answer) : Type 0 where
  pub ranges : IsLocal own
  pub error : answer.error ≤ max_error
  pub precise : 1 ≤ answer.precision
  pub t1 : own.precision ≤ answer.t1
  pub t2 : answer.precision ≤ answer.t2
  pub t3 : answer.t2 ≤ answer.t3
  pub order : answer.t1 ≤ answer.t4 + 2 * own.precision + 1
  pub time : ℕ
  pub enough : F * answer.t3 ≤ F * (answer.t2 + 2 * answer.precision + 1) + (F + answer.error) * time
  pub fits : (F - own.error) * time ≤ F * (answer.t4 + 2 * own.precision + 1 - answer.t1)

-- the shortest turnaround of at most so much isn't longer than the longest round trip
pub turnaround-fits : (own : Local) (answer : Answer) (passed : ℕ) → IsOpen own answer
    → passed ≤ answer.t3 - answer.precision - (answer.t2 + answer.precision)
    → shortest answer.error passed ≤ since_asked own answer answer.t4
turnaround-fits own answer passed given small =
    let ranges = given.ranges in
    let least : shortest answer.error passed ≤ given.time =
    shortest-le answer.error passed given.time (omega (arith, given.enough)) in
    let product : (F - own.error) * shortest answer.error passed ≤ (F - own.error) * given.time =
    mul-le-mul_left (F - own.error) least in
    longest-ge own.error (answer.t4 + 2 * own.precision + 1 - answer.t1) (shortest answer.error passed)
    (omega (arith, ranges.error)) (omega (arith, product, given.fits))
