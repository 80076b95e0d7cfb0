-- The verdict on a line comes out of the few numbers that a drift keeps.
use Rattle.std.proofs.Common.{◌≡◌, ℕ, ◌*◌, ◌≤◌, ◌∙◌, sym, ap, refl, arith, Bool, true, false, List, []}
use Rattle.std.specs.Prelude.{ℤ, pos, ◌≤ℤ◌, ◌<ℤ◌, int_lt, neg_ℤ, if◌then◌else◌, All, Option, Some, None, Result, Ok}
use Rattle.std.specs.Prelude.{Err}
use Rattle.std.specs.Option.{option_map}
use Rattle.std.specs.Result.{result_and}
use Rattle.std.proofs.lemmas.Int.{ints}
use Rattle.std.proofs.Math.Nat.{mul-le-mul_left}
use Rattle.css_model.proofs.Narrowest.{is_not_less}
use Rattle.css_moments.specs.declared.fault.DriftFault.{DriftFault}
use Rattle.css_moments.specs.declared.fault.DriftFault.TheVariants.{Broken}
use Rattle.std.proofs.lemmas.List.Elements.{All-contains}
use Rattle.css_model.specs.WallClock.{least_by}
use Rattle.css_moments.specs.declared.kept.Extremes.{Extremes}
use Rattle.css_moments.specs.declared.kept.Least.{Least}
use Rattle.css_moments.specs.Drifts.{Shown, excess, worst, time_verdict, drift_verdict}
use Rattle.css_moments.specs.Numbers.{lead, lag}
use Rattle.css_moments.specs.Steps.{extremes_at, test_time, test_drift}
use Rattle.css_moments.specs.Standing.{last_of, first_least}
use Rattle.css_moments.proofs.Excesses.{lead_rise, lag_rise, excess-rises, excess-keeps}
use Rattle.css_moments.proofs.Pairs.{KeepEither}
use Rattle.css_moments.proofs.Pairs.KeepEither.{First, Second}
use Rattle.css_moments.proofs.Worst.{LinesRise, IsFirst, IsWorst, least_by-none, least_by-first, worst-from_bounds}

-- true time is tested against the last line
pub time_verdict-kept : (last : Option Shown) (now : Shown)
    → time_verdict last now ≡ test_time (option_map last_of last) now.time
time_verdict-kept None now = refl
time_verdict-kept (Some last) now = refl

-- where the lead has risen too much from one line, the lag hasn't from another
one-breaks : (error : ℕ) (a b now : Shown) → KeepEither error a b → a.time ≤ now.time → b.time ≤ now.time
    → pos 0 <ℤ lead_rise error a now → lag_rise error b now ≤ℤ pos 0
one-breaks error a b now (First later keeps) to_a to_b h =
    let rises = excess-rises error a b in
    let kept = (excess-keeps error a b later).1 keeps in
    let most : error * b.time ≤ error * now.time = mul-le-mul_left error to_b in
    omega (arith, ints)
one-breaks error a b now (Second later keeps) to_a to_b h =
    let rises = excess-rises error b a in
    let kept = (excess-keeps error b a later).1 keeps in
    let most : error * a.time ≤ error * now.time = mul-le-mul_left error to_a in
    omega (arith, ints)

-- what is told of an excess
abbrev told_of : ℕ → ℤ → Result (Unit {0}) DriftFault
told_of line amount = if int_lt (pos 0) amount then Err (Broken line amount) else Ok tt

-- two excesses that are not above one another are told alike, from one line
told-same : (k l : ℕ) (x y : ℤ) → k ≡ l → x ≤ℤ y → y ≤ℤ x → told_of k x ≡ told_of l y
told-same k l x y e h i = let same : x ≡ y = omega (arith, ints) in rw (e, same) refl

-- the verdict by the worst line is that of the tests of both numbers
tests-tell : (error : ℕ) (now a b w : Shown) → IsWorst error now a b w → KeepEither error a b → a.time ≤ now.time
    → b.time ≤ now.time
    → told_of w.line (excess error w now) ≡ result_and (told_of a.line (lead_rise error a now))
    (told_of b.line (lag_rise error b now))
tests-tell error now a b w worst either to_a to_b =
    by (int_lt (pos 0) (lead_rise error a now)) (int_lt (pos 0) (lag_rise error b now)) refl refl
  where
    by : (r s : Bool) → int_lt (pos 0) (lead_rise error a now) ≡ r → int_lt (pos 0) (lag_rise error b now) ≡ s
        → told_of w.line (excess error w now) ≡ result_and (told_of a.line (lead_rise error a now))
        (told_of b.line (lag_rise error b now))
    by true s e f =
        let above : pos 0 <ℤ lead_rise error a now = omega (arith, ints, e) in
        let other : lag_rise error b now ≤ℤ pos 0 = one-breaks error a b now either to_a to_b above in
        let same =
        told-same w.line a.line (excess error w now) (lead_rise error a now) (worst.lead_line (omega (arith, ints)))
        (omega (arith, ints, worst.greater.either)) worst.greater.first in
        same ∙ rw e refl
    by false true e f =
        let same =
        told-same w.line b.line (excess error w now) (lag_rise error b now)
        (worst.lag_line (omega (arith, ints, e, f))) (omega (arith, ints, worst.greater.either, e, f))
        worst.greater.second in
        same ∙ rw e refl
    by false false e f =
        let none : int_lt (pos 0) (excess error w now) ≡ false =
        is_not_less (pos 0) (excess error w now) (omega (arith, ints, worst.greater.either, e, f)) in
        rw (none, e, f) refl

-- the three least lines that there are, with what the drift keeps of two of them
worst-kept : (error : ℕ) (xs : List Shown) (now a b w : Shown) → LinesRise xs
    → least_by (λ s. lead error s.time s.value) xs ≡ Some a → least_by (λ s. lag error s.time s.value) xs ≡ Some b
    → worst error xs now ≡ Some w
    → IsWorst error now a b w
worst-kept error xs now a b w rise p q o =
    let at_a = least_by-first (λ s. lead error s.time s.value) xs a rise p in
    let at_b = least_by-first (λ s. lag error s.time s.value) xs b rise q in
    let at_w = least_by-first (λ s. neg_ℤ (excess error s now)) xs w rise o in
    worst-from_bounds error now a b w
    (All-contains (IsFirst (λ s. lead error s.time s.value) a) xs w at_a.bound at_w.among)
    (All-contains (IsFirst (λ s. lag error s.time s.value) b) xs w at_b.bound at_w.among)
    (All-contains (IsFirst (λ s. lead error s.time s.value) a) xs b at_a.bound at_b.among)
    (All-contains (IsFirst (λ s. lag error s.time s.value) b) xs a at_b.bound at_a.among)
    (All-contains (IsFirst (λ s. neg_ℤ (excess error s now)) w) xs a at_w.bound at_a.among)
    (All-contains (IsFirst (λ s. neg_ℤ (excess error s now)) w) xs b at_w.bound at_b.among)

-- a least one of no lines
none_of_none : (f : Shown → ℤ) (xs : List Shown) (a : Shown) → xs ≡ [] → least_by f xs ≡ Some a → ⊥
none_of_none f xs a none e = let found : least_by f [] ≡ Some a = ap (least_by f) (sym none) ∙ e in cc found

-- the drift is tested by the least numbers
pub drift_verdict-kept : (error : ℕ) (xs : List Shown) (lately : Option Extremes) (now : Shown) → LinesRise xs
    → All (λ s. s.time ≤ now.time) xs → All (λ a. All (KeepEither error a) xs) xs
    → option_map (λ e. e.lead) lately ≡ first_least (λ s. lead error s.time s.value) xs
    → option_map (λ e. e.lag) lately ≡ first_least (λ s. lag error s.time s.value) xs
    → drift_verdict error (worst error xs now) now ≡ test_drift lately (extremes_at error now.line now.time now.value)
drift_verdict-kept error xs lately now rise times either leads lags =
    by (worst error xs now) (least_by (λ s. lead error s.time s.value) xs) (least_by (λ s. lag error s.time s.value) xs)
    lately refl refl refl leads lags
  where
    least_of : (Shown → ℤ) → Shown → Least
    least_of number s = record { line = s.line; value = number s }

    by : (o p q : Option Shown) (kept : Option Extremes) → worst error xs now ≡ o
        → least_by (λ s. lead error s.time s.value) xs ≡ p → least_by (λ s. lag error s.time s.value) xs ≡ q
        → option_map (λ e. e.lead) kept ≡ option_map (least_of (λ s. lead error s.time s.value)) p
        → option_map (λ e. e.lag) kept ≡ option_map (least_of (λ s. lag error s.time s.value)) q
        → drift_verdict error o now ≡ test_drift kept (extremes_at error now.line now.time now.value)
    by None p q None o f g h k = refl
    by None None q (Some e) o f g h k = cc
    by None (Some a) q (Some e) o f g h k =
        absurd
        (none_of_none (λ s. lead error s.time s.value) xs a (least_by-none (λ s. neg_ℤ (excess error s now)) xs o) f)
    by (Some w) None q kept o f g h k =
        absurd
        (none_of_none (λ s. neg_ℤ (excess error s now)) xs w (least_by-none (λ s. lead error s.time s.value) xs f) o)
    by (Some w) (Some a) None kept o f g h k =
        absurd
        (none_of_none (λ s. neg_ℤ (excess error s now)) xs w (least_by-none (λ s. lag error s.time s.value) xs g) o)
    by (Some w) (Some a) (Some b) None o f g h k = cc
    by (Some w) (Some a) (Some b) (Some e) o f g h k =
        let at_lead : e.lead ≡ record { line = a.line; value = lead error a.time a.value } = cc in
        let at_lag : e.lag ≡ record { line = b.line; value = lag error b.time b.value } = cc in
        let found_a = (least_by-first (λ s. lead error s.time s.value) xs a rise f).among in
        let found_b = (least_by-first (λ s. lag error s.time s.value) xs b rise g).among in
        let keep =
        All-contains (KeepEither error a) xs b (All-contains (λ s. All (KeepEither error s) xs) xs a either found_a)
        found_b in
        rw (at_lead, at_lag)
        (tests-tell error now a b w (worst-kept error xs now a b w rise f g o) keep
        (All-contains (λ s. s.time ≤ now.time) xs a times found_a)
        (All-contains (λ s. s.time ≤ now.time) xs b times found_b))
