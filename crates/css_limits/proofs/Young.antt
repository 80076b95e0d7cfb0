-- A wall clock that began to count with the request tells more than its answer.
use Rattle.std.proofs.Common.{◌≡◌, ℕ, ◌≤◌, arith, [], ◌∷◌}
use Rattle.std.specs.Prelude.{List}
use Rattle.std.proofs.lemmas.Int.{ints}
use Rattle.css_model.specs.WallClock.{lo, lower}
use Rattle.css_limits.specs.Worlds.{Shown}
use Rattle.css_limits.specs.Limits.{MayShow, TellsMore, young_answer, exact}
use Rattle.css_limits.proofs.Lists.{is_world_of, Runs, InOrder}
use Rattle.css_limits.proofs.Limits.{Fits, may_be}

-- exact clocks, which both count from the request's sending on, when it was received and answered at once
abbrev pub shown : ℕ → Shown
shown time = record { time = time; wall = time; own = time }

abbrev pub young : List Shown
young = shown 0 ∷ shown 0 ∷ shown 1000 ∷ shown 1001 ∷ []

young_runs : InOrder (Runs 0 0) (shown 0) young
young_runs =
    let run = λ (s t : ℕ) (order : s ≤ t). exact_run s t order in (
      (run 0 0 (omega arith), (run 0 0 (omega arith), (run 0 1000 (omega arith), (run 0 1001 (omega arith), tt)))),
      (
        (run 0 0 (omega arith), (run 0 1000 (omega arith), (run 0 1001 (omega arith), tt))),
        (
          (run 0 1000 (omega arith), (run 0 1001 (omega arith), tt)),
          ((run 1000 1001 (omega arith), tt), tt),
        ),
      ),
    )
  where
    exact_run : (s t : ℕ) → s ≤ t → Runs 0 0 (shown s) (shown t)
    exact_run s t order = record { order = order; tv = omega arith; own = omega arith }

young_fits : Fits exact young_answer 1001 1001 (shown 0) young
young_fits = record {
  is_world = λ who.
      is_world_of exact young_answer who (shown 0) young (record { error = omega arith; precision = omega arith })
      young_runs;
  t1 = omega arith;
  t2 = omega arith;
  t3 = omega arith;
  t4 = omega arith;
  before_last = omega arith;
  last = omega arith;
}

-- the wall clock has counted since the request
counted : (other : ℕ) → MayShow exact young_answer 1001 other → 999 ≤ other
counted other may =
    let keeps = may.is_world.keeps in
    let first = may.timed.t1 in
    let e = may.exchange in
    let order : e.asked ≤ may.moment =
    omega (arith, may.timed.received_later, may.timed.transmitted_later, may.timed.landed_later, may.later) in
    let clock = keeps.companion may.who e.asked may.moment first.clock may.reads.clock order first.shows may.reads.shows
    (omega (arith, first.awake, may.reads.awake)) in
    let wall = keeps.tv e.asked may.moment order in
    let exact_own : may.errors.companion may.who ≡ 0 = omega (arith, may.is_world.declared) in
    let exact_tv : may.errors.tv ≡ 0 = omega (arith, may.declared) in
    let own_passed = rw exact_own at clock in
    let tv_passed = rw exact_tv at wall in
    omega (arith, own_passed, tv_passed, first.near, may.reads.near, may.shows, keeps.order e.asked may.moment order)

pub young_clocks_tell_more : TellsMore 1001 1001
unfolding lo lower
young_clocks_tell_more = record {
  declared = record { error = omega arith; precise = omega arith };
  usual = record {
    t1 = omega arith;
    t2 = omega arith;
    t3 = omega arith;
    late = omega arith;
  };
  may_show = may_be exact young_answer 1001 1001 (shown 0) young young_fits;
  low_end = omega (arith, ints);
  counted = counted;
}
