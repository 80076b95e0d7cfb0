-- A span that is carried on contains the wall clock.
use Rattle.std.proofs.Common.{◌≡◌, ℕ, ◌+◌, ◌-◌, ◌*◌, ◌≤◌, arith, refl, []}
use Rattle.std.specs.Prelude.{ℤ, pos, ◌≤ℤ◌, ◌+ℤ◌, ◌-ℤ◌, ◌*ℤ◌}
use Rattle.std.proofs.lemmas.Int.{ints}
use Rattle.std.proofs.lemmas.List.Elements.{All-head}
use Rattle.std.proofs.Math.Nat.{mul-le-mul_left}
use borrow.Author.Differences.{up, down, product_is}
use Rattle.css_num.proofs.Rounding.{floor_div_times-le, floor_div-mono, floor_div-add_multiple}
use Rattle.css_num.proofs.Rounding.{IsCeiling-ceil_div, ceil_div-mono, ceil_div-add_multiple}
use Rattle.css_model.specs.declared.TheConstants.{F}
use Rattle.css_model.specs.Numbers.{floor_div, ceil_div}
use Rattle.css_model.specs.WallClock.{Answer, Local, IsLocal, lower, upper, lo, hi}
use Rattle.css_model.specs.Truth.{Exchange, IsTimed}
use Rattle.css_model.proofs.Division.{times_difference}
use Rattle.css_model.proofs.Standard.{spans_are_the_standard}
use Rattle.css_model.proofs.Truth.{spans_are_true}
use Rattle.css_agree.specs.Agreements.{IsTruthful}
use Rattle.css_agree.specs.Carrying.{CarryingIsTrue, CarriedSpansAreTrue, CarriedForASecond}
use Rattle.css_agree.proofs.Alike.{lower_is, upper_is}
use Rattle.css_agree.proofs.Truth.{contains}

-- ---- an answer's own span
-- An end grows by n for each nanosecond. So it is at least what it was, rounded down to a multiple of d, and n for each
-- nanosecond from a reading that isn't below the first.
grown-below : (d n r s from : ℕ) (before after q : ℤ) → r ≤ from → (q *ℤ pos d) ≤ℤ before
    → up after + down before + n * r ≡ down after + up before + n * s
    → ((pos d *ℤ q) +ℤ (pos n *ℤ (pos s -ℤ pos from))) ≤ℤ after
grown-below d n r s from before after q later below growth =
    omega (
      arith,
      ints,
      times_difference n s from,
      mul-le-mul_left n later,
      product_is q (pos d),
      product_is (pos d) q,
      below,
      growth,
    )

-- and at most what it was, rounded up, and n for each nanosecond to a reading that isn't below the last
grown-above : (d n r s to : ℕ) (before after q : ℤ) → s ≤ to → before ≤ℤ (q *ℤ pos d)
    → up after + down before + n * r ≡ down after + up before + n * s
    → after ≤ℤ ((pos d *ℤ q) +ℤ (pos n *ℤ (pos to -ℤ pos r)))
grown-above d n r s to before after q later above growth =
    omega (
      arith,
      ints,
      times_difference n to r,
      mul-le-mul_left n later,
      product_is q (pos d),
      product_is (pos d) q,
      above,
      growth,
    )

-- so the lower end that is carried on isn't above the answer's own
lo-carried : (own : Local) (a : Answer) (r s : ℕ)
    → ((lo own a r -ℤ pos 1)
    +ℤ floor_div (pos (F - a.error) *ℤ (pos s -ℤ pos (r + 2 * own.precision + 1))) (F + own.error))
    ≤ℤ lo own a s
unfolding lo
lo-carried own a r s =
    let d = F + own.error in
    let q = floor_div (lower own a r) (F + own.error) in
    let grown = pos (F - a.error) *ℤ (pos s -ℤ pos (r + 2 * own.precision + 1)) in
    let below : ((pos (F + own.error) *ℤ q) +ℤ grown) ≤ℤ lower own a s =
    grown-below d (F - a.error) r s (r + 2 * own.precision + 1) (lower own a r) (lower own a s) q (omega arith)
    (floor_div_times-le (lower own a r) d (omega arith))
    (omega (arith, lower_is own a r, lower_is own a s)) in
    let rounded = floor_div-mono ((pos d *ℤ q) +ℤ grown) (lower own a s) d (omega arith) below in
    omega (arith, ints, floor_div-add_multiple q grown d (omega arith), rounded)

-- and the upper end isn't below it
hi-carried : (own : Local) (a : Answer) (r s : ℕ) → IsLocal own
    → hi own a s
    ≤ℤ ((hi own a r +ℤ pos 1)
    +ℤ ceil_div (pos (F + a.error) *ℤ (pos (s + 2 * own.precision + 1) -ℤ pos r)) (F - own.error))
unfolding hi
hi-carried own a r s local =
    let d = F - own.error in
    let q = ceil_div (upper own a r) (F - own.error) in
    let grown = pos (F + a.error) *ℤ (pos (s + 2 * own.precision + 1) -ℤ pos r) in
    let ceiling = IsCeiling-ceil_div (upper own a r) d (omega arith) in
    let above : upper own a s ≤ℤ ((pos (F - own.error) *ℤ q) +ℤ grown) =
    grown-above d (F + a.error) r s (s + 2 * own.precision + 1) (upper own a r) (upper own a s) q (omega arith)
    ceiling.reached
    (omega (arith, upper_is own a r, upper_is own a s)) in
    let rounded = ceil_div-mono (upper own a s) ((pos d *ℤ q) +ℤ grown) d (omega arith) above in
    omega (arith, ints, ceil_div-add_multiple q grown d (omega arith), rounded)

pub carrying_is_true : CarryingIsTrue
carrying_is_true own answer reading later most errors world who sleeps i for reads told =
    let truthful = All-head (IsTruthful errors world who own sleeps i) answer [] told in
    let there = contains errors world who own sleeps i later answer for reads most truthful in
    record {
      low = omega (arith, ints, lo-carried own answer reading later, there.low);
      high = omega (arith, ints, hi-carried own answer reading later for.ranges, there.high);
    }

-- ---- any true span
-- It is carried on as that of an answer whose exchange was at the first moment, at once, with the wall clock's value.
pub carried_spans_are_true : CarriedSpansAreTrue
carried_spans_are_true errors world who own error sleeps i j reading later span for declared most order from to within =
    let wall = (world i).wall in
    let answer : Answer =
    record { t1 = reading; t2 = wall; t3 = wall; t4 = reading; precision = 0; error = error } in
    let exchange : Exchange = record { asked = i; received = i; transmitted = i; landed = i } in
    let timed : IsTimed world who own answer exchange sleeps = record {
      received_later = omega arith;
      transmitted_later = omega arith;
      landed_later = omega arith;
      t1 = from;
      t2 = (omega arith, omega arith);
      t3 = (omega arith, omega arith);
      t4 = from;
    } in
    let there = spans_are_true errors world who own answer exchange sleeps j later for declared most timed order to in
    let formula = spans_are_the_standard own answer later for.ranges most in
    record {
      low = omega (arith, ints, within.low, formula.lower_end, there.low);
      high = omega (arith, ints, within.high, formula.upper_end, there.high);
    }

-- ---- numbers
pub carried_for_a_second : CarriedForASecond
carried_for_a_second = refl
