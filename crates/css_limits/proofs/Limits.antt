-- Both ends of a span are reached, but for a few nanoseconds.
use Rattle.std.proofs.Common.{◌≡◌, ℕ, ◌+◌, ◌-◌, ◌*◌, ◌<◌, ◌≤◌, arith, ap, refl, List}
use Rattle.std.proofs.lemmas.Int.{ints}
use Rattle.std.proofs.Math.Nat.{mul-le-mul_left}
use Rattle.css_model.specs.declared.TheConstants.{F}
use Rattle.css_model.specs.Numbers.{IsWithin}
use Rattle.css_model.specs.WallClock.{Answer, Local}
use Rattle.css_model.specs.World.{RunsWithin, IsWorldFor}
use Rattle.css_model.proofs.Spans.{RunsWithin-more}
use Rattle.css_limits.specs.Worlds.{Shown, item, world_of, declared, latest_at}
use Rattle.css_limits.specs.Worlds.{latest_first, latest_last, earliest_first, earliest_last}
use Rattle.css_limits.specs.Limits.{MayShow, IsDeclared, IsUsual, HasRun}
use Rattle.css_limits.specs.Limits.{EndsAreReached, NoneIsNarrower, UpperEndIsReached}
use Rattle.css_limits.proofs.Lists.{is_world_of, reads_of}
use Rattle.css_limits.proofs.Open.{IsOpen}
use Rattle.css_limits.proofs.Moments.{latest_later, latest_runs, latest_transmit-near}
use Rattle.css_limits.proofs.Moments.{earliest_later, earliest_runs, earliest_transmit-near}
use Rattle.css_limits.proofs.After.{between_own-near}
use Rattle.css_limits.proofs.Bounds.{latest-high, earliest-low}

-- what two clocks of a world show of an exchange: its turnaround fits into its round trip
fits_in : (own answer_error tv who_error pL p t1 t2 t3 t4 ta la tb wb tc wc td ld : ℕ)
    → tv ≤ answer_error → who_error ≤ own → own < F → ta ≤ tb → tb ≤ tc → tc ≤ td
    → RunsWithin tv tb wb tc wc → RunsWithin who_error ta la td ld
    → IsWithin pL t1 la → IsWithin p t2 wb → IsWithin p t3 wc → IsWithin pL t4 ld
    → (t1 ≤ t4 + 2 * pL + 1) × ((F * t3 ≤ F * (t2 + 2 * p + 1) + (F + answer_error) * (tc - tb))
    × ((F - own) * (tc - tb) ≤ F * (t4 + 2 * pL + 1 - t1)))
fits_in own error tv who pL p t1 t2 t3 t4 ta la tb wb tc wc td ld most more small asked turned landed wall clock n1 n2
    n3 n4 =
    let wider = RunsWithin-more tv error tb wb tc wc most wall in
    let slower = RunsWithin-more who own ta la td ld more clock in
    let parts : F - own + own ≡ F = omega arith in
    let split : (F - own) * (td - ta) + own * (td - ta) ≡ F * (td - ta) =
    omega (arith, ap (λ n. n * (td - ta)) parts) in
    let inside : (F - own) * (tc - tb) ≤ (F - own) * (td - ta) = mul-le-mul_left (F - own) (omega arith) in
    let long : (F - own) * (td - ta) + F * t1 ≤ F * (t4 + 2 * pL + 1) =
    omega (arith, split, slower.0, slower.1) in (
      omega (arith, long),
      (
        omega (arith, wider.0, wider.1),
        omega (arith, inside, long),
      ),
    )

-- so an exchange that some world has is given
pub open_of : (own : Local) (answer : Answer) (reading wall : ℕ) → IsDeclared answer
    → IsUsual own answer reading → MayShow own answer reading wall → IsOpen own answer
open_of own answer reading wall told usual may =
    let world = may.world in
    let e = may.exchange in
    let timed = may.timed in
    let keeps = may.is_world.keeps in
    let ranges = may.is_world.ranges in
    let first = timed.t1 in
    let last = timed.t4 in
    let whole : e.asked ≤ e.landed =
    omega (arith, timed.received_later, timed.transmitted_later, timed.landed_later) in
    let found = fits_in own.error answer.error may.errors.tv (may.errors.companion may.who) own.precision
    answer.precision answer.t1 answer.t2 answer.t3 answer.t4
    (world e.asked).time first.clock.value (world e.received).time (world e.received).wall
    (world e.transmitted).time (world e.transmitted).wall (world e.landed).time last.clock.value
    may.declared may.is_world.declared (omega (arith, ranges.error))
    (keeps.order e.asked e.received timed.received_later)
    (keeps.order e.received e.transmitted timed.transmitted_later)
    (keeps.order e.transmitted e.landed timed.landed_later)
    (keeps.tv e.received e.transmitted timed.transmitted_later)
    (keeps.companion may.who e.asked e.landed first.clock last.clock whole first.shows last.shows
    (omega (arith, first.awake, last.awake)))
    first.near timed.t2 timed.t3 last.near in
    record {
      ranges = ranges;
      error = told.error;
      precise = told.precise;
      t1 = usual.t1;
      t2 = usual.t2;
      t3 = usual.t3;
      order = found.0;
      time = (world e.transmitted).time - (world e.received).time;
      enough = found.1.0;
      fits = found.1.1;
    }

-- A world of six moments has an exchange with the answer's times, and its last two read the companion's clock.
pub record Fits (own : Local) (answer : Answer) (between reading : ℕ) (first : Shown) (later : List Shown) :
    Type 0 where
  pub is_world : (who : ℕ) → IsWorldFor (declared own answer) (world_of first later) who own
  pub t1 : IsWithin own.precision answer.t1 (item first later 0).own
  pub t2 : IsWithin answer.precision answer.t2 (item first later 1).wall
  pub t3 : IsWithin answer.precision answer.t3 (item first later 2).wall
  pub t4 : IsWithin own.precision answer.t4 (item first later 3).own
  pub before_last : IsWithin own.precision between (item first later 4).own
  pub last : IsWithin own.precision reading (item first later 5).own

-- so the last wall clock may be shown
pub may_be : (own : Local) (answer : Answer) (between reading : ℕ) (first : Shown) (later : List Shown)
    → Fits own answer between reading first later → MayShow own answer reading (item first later 5).wall
may_be own answer between reading first later fits = record {
  errors = declared own answer;
  world = world_of first later;
  who = 1;
  exchange = record { asked = 0; received = 1; transmitted = 2; landed = 3 };
  sleeps = 0;
  moment = 5;
  is_world = fits.is_world 1;
  declared = omega arith;
  timed = record {
    received_later = omega arith;
    transmitted_later = omega arith;
    landed_later = omega arith;
    t1 = reads_of 1 own.precision answer.t1 0 first later fits.t1;
    t2 = fits.t2;
    t3 = fits.t3;
    t4 = reads_of 1 own.precision answer.t4 3 first later fits.t4;
  };
  later = omega arith;
  reads = reads_of 1 own.precision reading 5 first later fits.last;
  shows = refl;
}

-- the latest world is such a world
pub latest_fits : (own : Local) (answer : Answer) (between reading : ℕ) → IsOpen own answer
    → answer.t4 ≤ between → between ≤ reading
    → Fits own answer between reading (latest_first own answer) (latest_later own answer between reading)
unfolding latest_at
latest_fits own answer between reading given low high = record {
  is_world = λ who. is_world_of own answer who (latest_first own answer) (latest_later own answer between reading)
      given.ranges (latest_runs own answer between reading given low high);
  t1 = omega (arith, given.t1);
  t2 = omega arith;
  t3 = latest_transmit-near own answer given;
  t4 = omega arith;
  before_last = omega arith;
  last = omega arith;
}

-- and so is the earliest
pub earliest_fits : (own : Local) (answer : Answer) (between reading : ℕ) → IsOpen own answer → HasRun own answer
    → answer.t4 ≤ between → between ≤ reading → answer.t4 + 2 * own.precision + 1 ≤ reading
    → Fits own answer between reading (earliest_first own answer) (earliest_later own answer between reading)
earliest_fits own answer between reading given old low high late = record {
  is_world = λ who. is_world_of own answer who (earliest_first own answer) (earliest_later own answer between reading)
      given.ranges (earliest_runs own answer between reading given old late);
  t1 = omega (arith, given.t1);
  t2 = omega (arith, given.t2, given.t3);
  t3 = earliest_transmit-near own answer given;
  t4 = omega arith;
  before_last = between_own-near own answer between reading low high late;
  last = omega (arith, late);
}

pub upper_end_is_reached : UpperEndIsReached 4
upper_end_is_reached own answer reading wall told usual may =
    let given = open_of own answer reading wall told usual may in
    let late : answer.t4 ≤ reading = omega (arith, usual.late) in (
      (latest_last own answer reading).wall,
      may_be own answer answer.t4 reading (latest_first own answer) (latest_later own answer answer.t4 reading)
          (latest_fits own answer answer.t4 reading given (omega arith) late),
      latest-high own answer reading given late,
    )

pub ends_are_reached : EndsAreReached 4
ends_are_reached own answer reading wall told usual old may =
    let given = open_of own answer reading wall told usual may in
    let upper = upper_end_is_reached own answer reading wall told usual may in
    record {
      least = (earliest_last own answer answer.t4 reading).wall;
      may_be_least =
          may_be own answer answer.t4 reading (earliest_first own answer)
          (earliest_later own answer answer.t4 reading)
          (earliest_fits own answer answer.t4 reading given old (omega arith) (omega (arith, usual.late)) usual.late);
      low_enough = earliest-low own answer answer.t4 reading given usual.late;
      greatest = upper.0;
      may_be_greatest = upper.1;
      high_enough = upper.2;
    }

pub none_is_narrower : NoneIsNarrower 4
none_is_narrower own answer reading wall low high value told usual old may always above below =
    let ends = ends_are_reached own answer reading wall told usual old may in
    let least = always ends.least ends.may_be_least in
    let greatest = always ends.greatest ends.may_be_greatest in (
      omega (arith, ints, least.0, ends.low_enough),
      omega (arith, ints, greatest.1, ends.high_enough),
    )
