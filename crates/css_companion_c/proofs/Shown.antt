-- A tick is shown at the readings that each kept answer allows.
use Rattle.std.proofs.Common.{◌≡◌, ℕ, ◌+◌, ◌-◌, ◌^◌, ◌≤◌, ◌<◌, arith, sym, subst, Bool, true, false}
use Rattle.std.proofs.Common.{List, [], length, get_or, take}
use Rattle.std.proofs.lemmas.Int.{ints, clamps, by_lt_z}
use Rattle.std.proofs.lemmas.List.{take-take, get_or-take, length-take, get_or-reverse, length-reverse, reverse-reverse}
use Rattle.std.proofs.lemmas.List.Elements.{All-nil, All-take, All-get_or, All-more}
use Rattle.std.specs.Prelude.{ℤ, pos, int_lt, ◌≤ℤ◌, ◌<ℤ◌, Some, Result, Ok, All, reverse}
use Rattle.std.specs.Int.{int_min, int_max}
use Rattle.css_model.specs.declared.TheConstants.{LIMIT}
use Rattle.css_model.specs.WallClock.{Answer, Local, lo, hi}
use Rattle.css_model.specs.Truth.{Contains}
use Rattle.css_span.specs.WallSpans.{span_of}
use Rattle.css_client.specs.Standing.{KeptContainTheWall}
use Rattle.css_companion.specs.Reports.{assigned_by, ticks_at, report_by, HasTickOf}
use Rattle.css_companion.specs.Standing.{Companion, own_of, timing_now}
use Rattle.css_companion.specs.declared.knowledge.Timing.{Timing}
use Rattle.css_companion.specs.declared.report.Cause.{Cause}
use Rattle.css_companion_c.specs.When.{Shows, MayShow, GoesBy, place, HasCome, HasPassed, IsPresented}
use Rattle.css_companion_c.specs.When.{Meets, StaysNear, IsMet, AreMet}
use Rattle.css_companion_c.specs.declared.reaching.Stretch.{Stretch}

-- ---- all answers of a list
pub are_met-none : (own : Local) (values : Stretch) (floor : ℕ) (readings : Stretch)
    → readings.from ≡ pos floor → readings.end ≡ pos LIMIT → AreMet own values floor [] readings
are_met-none own values floor readings from end = record {
  begins = omega (arith, ints);
  ends = omega (arith, ints);
  within = λ reading above below each. (omega (arith, ints), omega (arith, ints));
  each = λ reading above below. All-nil (Meets own values reading);
  near = All-nil (StaysNear own);
}

-- of the first answers of a list, those before the last
pub before_last : (P : Answer → Type 0) (answers : List Answer) (i : ℕ) → All P (take (i + 1) answers)
    → All P (take i answers)
before_last P answers i each =
    subst (All P) (take-take i (i + 1) answers (omega arith)) (All-take P i (take (i + 1) answers) each)

-- and the last
pub last : (P : Answer → Type 0) (answers : List Answer) (i : ℕ) (d : Answer) → i < length answers
    → All P (take (i + 1) answers) → P (get_or answers i d)
last P answers i d within each =
    subst P (get_or-take (i + 1) answers i d (omega arith))
    (All-get_or P (take (i + 1) answers) i d (omega (arith, length-take (i + 1) answers)) each)

pub are_met-more : (own : Local) (values : Stretch) (floor : ℕ) (answers : List Answer) (i : ℕ) (d : Answer)
    (old met readings : Stretch) → i < length answers → AreMet own values floor (take i answers) old
    → IsMet own values (get_or answers i d) met → readings.from ≡ int_max old.from met.from
    → readings.end ≡ int_min old.end met.end → AreMet own values floor (take (i + 1) answers) readings
are_met-more own values floor answers i d old met readings inside so_far next from end = record {
  begins = omega (arith, ints, clamps, so_far.begins);
  ends = omega (arith, ints, clamps, so_far.ends);
  within = λ reading above below each.
      let earlier = so_far.within reading above below (before_last (Meets own values reading) answers i each) in
      let newest = last (Meets own values reading) answers i d inside each in
      let begun = (next.from reading).1 newest.high in
      let on : pos reading <ℤ met.end = by_lt_z {P = pos reading <ℤ met.end} (pos reading) met.end (λ less. less)
      (λ more. let passed = (next.end reading).0 more in let low = newest.low in absurd (omega (arith, ints))) in
      (omega (arith, ints, clamps, earlier.0), omega (arith, ints, clamps, earlier.1));
  each = λ reading above below.
      let earlier = so_far.each reading (omega (arith, ints, clamps)) (omega (arith, ints, clamps)) in
      let begun = (next.from reading).0 (omega (arith, ints, clamps)) in
      let low : lo own (get_or answers i d) reading <ℤ values.end =
      by_lt_z {P = lo own (get_or answers i d) reading <ℤ values.end} (lo own (get_or answers i d) reading) values.end
      (λ less. less)
      (λ more. let passed = (next.end reading).1 more in absurd (omega (arith, ints, clamps))) in
      All-more (Meets own values reading) answers i d inside earlier (record { high = begun; low = low });
  near = All-more (StaysNear own) answers i d inside so_far.near next.near;
}

-- ---- the kept answers, the other way round
pub all_reversed : (P : Answer → Type 0) (answers : List Answer) → All P answers → All P (reverse answers)
all_reversed P answers each = λ k d within.
    let inside : k < length answers = omega (arith, length-reverse answers) in
    subst P (sym (get_or-reverse answers k d inside)) (each (length answers - 1 - k) d (omega arith))

pub all_turned : (P : Answer → Type 0) (answers : List Answer) → All P (reverse answers) → All P answers
all_turned P answers each = subst (All P) (reverse-reverse answers) (all_reversed P (reverse answers) each)

pub met_kept : (companion : Companion) (values : Stretch) (own : Local) (floor : ℕ) (answers : List Answer)
    (readings : Stretch) → own ≡ own_of companion → floor ≡ companion.client.floor
    → answers ≡ reverse companion.client.estimate.kept → AreMet own values floor answers readings
    → AreMet (own_of companion) values companion.client.floor companion.client.estimate.kept readings
met_kept companion values own floor answers readings is same turned met =
    let kept = companion.client.estimate.kept in
    let by_own = subst (λ (l : Local). AreMet l values floor answers readings) is met in
    let by_floor = subst (λ (n : ℕ). AreMet (own_of companion) values n answers readings) same by_own in
    let by = subst (λ (l : List Answer). AreMet (own_of companion) values companion.client.floor l readings) turned
    by_floor in
    record {
      begins = by.begins;
      ends = by.ends;
      within = λ reading above below each.
          by.within reading above below (all_reversed (Meets (own_of companion) values reading) kept each);
      each = λ reading above below.
          all_turned (Meets (own_of companion) values reading) kept (by.each reading above below);
      near = all_turned (StaysNear (own_of companion)) kept by.near;
    }

-- ---- where the tick is shown
has_come : (back : Bool) (tick : ℤ) → HasCome back tick tick
has_come true tick = omega (arith, ints)
has_come false tick = omega (arith, ints)

not_passed : (back : Bool) (tick : ℤ) → HasPassed back tick tick → ⊥
not_passed true tick h = omega (arith, ints, h)
not_passed false tick h = omega (arith, ints, h)

-- the wall clock has one of the values then
shown_value : (timing : Timing) (tick : ℤ) (values : Stretch) (wall : ℕ) → IsPresented timing tick values
    → wall ≤ 2 ^ 69 → place timing (pos wall) ≡ tick → (values.from ≤ℤ pos wall) × (pos wall <ℤ values.end)
shown_value timing tick values wall presented near is =
    let back = int_lt timing.speed (pos 0) in (
      (presented.from (pos wall) near).1
          (subst (λ (at : ℤ). HasCome (int_lt timing.speed (pos 0)) tick at) (sym is)
          (has_come (int_lt timing.speed (pos 0)) tick)),
      by_lt_z {P = pos wall <ℤ values.end} (pos wall) values.end (λ less. less)
          (λ more. absurd (not_passed (int_lt timing.speed (pos 0)) tick
          (subst (λ (at : ℤ). HasPassed (int_lt timing.speed (pos 0)) tick at) is
          ((presented.end (pos wall) near).0 more)))),
    )

-- so each kept answer allows it
shown_meets : (companion : Companion) (timing : Timing) (tick : ℤ) (values : Stretch) → IsPresented timing tick values
    → GoesBy timing companion → KeptContainTheWall companion.client
    → All (StaysNear (own_of companion)) companion.client.estimate.kept → (reading : ℕ) → reading < LIMIT
    → Shows tick reading companion
    → All (Meets (own_of companion) values reading) companion.client.estimate.kept
shown_meets companion timing tick values presented timed holds near reading range shows = λ k d inside.
    let own = own_of companion in
    let wall = (shows.world (shows.moment_of (length shows.history))).wall in
    let answer = get_or companion.client.estimate.kept k d in
    let contains : Contains own answer reading wall =
    holds shows.history reading shows.errors shows.world shows.who shows.moment_of shows.stands.client shows.is_for
    shows.explains k d inside in
    let high = (near k d inside reading range).high in
    let small : wall ≤ 2 ^ 69 = omega (arith, ints, contains.high, high) in
    let assigned : Some (place timing (pos wall)) ≡ Some tick =
    subst (λ (t : Result Timing Cause). assigned_by t wall ≡ Some tick) (timed shows.history shows.stands)
    shows.shown in
    let value = shown_value timing tick values wall presented small (cc) in
    record { high = omega (arith, ints, value.0, contains.high); low = omega (arith, ints, value.1, contains.low) }

-- and it is one of the readings
pub within : (companion : Companion) (timing : Timing) (tick : ℤ) (values readings : Stretch)
    → IsPresented timing tick values → GoesBy timing companion → KeptContainTheWall companion.client
    → AreMet (own_of companion) values companion.client.floor companion.client.estimate.kept readings
    → (reading : ℕ) → companion.client.floor ≤ reading → reading < LIMIT → Shows tick reading companion
    → (readings.from ≤ℤ pos reading) × (pos reading <ℤ readings.end)
within companion timing tick values readings presented timed holds met reading above below shows =
    met.within reading above below
    (shown_meets companion timing tick values presented timed holds met.near reading below shows)

-- ---- where it may be shown
ticks_have : (back : Bool) (first last tick : ℤ) → HasCome back tick last → (HasPassed back tick first → ⊥)
    → (int_min first last ≤ℤ tick) × (tick ≤ℤ int_max first last)
ticks_have true first last tick come passed =
    let low = by_lt_z {P = tick ≤ℤ first} first tick (λ less. absurd (passed less)) (λ more. more) in
    (omega (arith, ints, clamps, come, low), omega (arith, ints, clamps, come, low))
ticks_have false first last tick come passed =
    let low = by_lt_z {P = first ≤ℤ tick} tick first (λ less. absurd (passed less)) (λ more. more) in
    (omega (arith, ints, clamps, come, low), omega (arith, ints, clamps, come, low))

-- at each of the readings the ticks of each kept answer have it
pub may_show : (companion : Companion) (timing : Timing) (tick : ℤ) (values readings : Stretch)
    → IsPresented timing tick values → timing_now companion ≡ Ok timing
    → AreMet (own_of companion) values companion.client.floor companion.client.estimate.kept readings
    → (reading : ℕ) → readings.from ≤ℤ pos reading → pos reading <ℤ readings.end → reading < LIMIT
    → MayShow tick reading companion
may_show companion timing tick values readings presented timed met reading above below range = λ k d inside.
    let own = own_of companion in
    let answer = get_or companion.client.estimate.kept k d in
    let meets : Meets own values reading answer = met.each reading above below k d inside in
    let near = met.near k d inside reading range in
    let come = (presented.from (hi own answer reading) (omega (arith, near.high))).0 meets.high in
    let told : HasTickOf (ticks_at (span_of own reading answer) timing) (Some tick) =
    ticks_have (int_lt timing.speed (pos 0)) (place timing (lo own answer reading))
    (place timing (hi own answer reading)) tick come
    (λ passed. let late = (presented.end (lo own answer reading) (omega (arith, near.low))).1 passed in
    let low = meets.low in omega (arith, ints)) in
    subst (λ (t : Result Timing Cause). HasTickOf (report_by (Some (span_of own reading answer)) t)
    (Some tick)) (sym timed)
    told
