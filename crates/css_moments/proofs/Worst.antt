-- The worst earlier line is that of the least lead or that of the least lag.
use Rattle.std.proofs.Common.{◌≡◌, ℕ, ◌<◌, ◌≤◌, ◌⊎◌, inl, inr, refl, arith, Bool, true, false, List, [], ◌∷◌}
use Rattle.std.specs.Prelude.{ℤ, ◌≤ℤ◌, ◌<ℤ◌, int_lt, neg_ℤ, All, Contains, Option, Some, None, ⊤}
use Rattle.std.proofs.lemmas.Int.{ints}
use Rattle.std.proofs.lemmas.List.Elements.{All-nil, All-cons, All-contains, All-weaker, Contains-get_or}
use Rattle.std.proofs.lemmas.List.Elements.{Contains-append_right}
use Rattle.css_model.specs.WallClock.{lesser, least_by}
use Rattle.css_moments.specs.Drifts.{Shown, excess}
use Rattle.css_moments.specs.Numbers.{lead, lag}
use Rattle.css_moments.proofs.Excesses.{lead_rise, lag_rise, IsGreater, excess-rises}

-- each line comes after the older ones
abbrev pub LinesRise : List Shown → Type 0
LinesRise [] = ⊤
LinesRise (shown ∷ older) = All (λ s. s.line < shown.line) older × LinesRise older

-- no line has a lesser number than this one, and each line before it has a greater
abbrev pub IsFirst : (Shown → ℤ) → Shown → Shown → Type 0
IsFirst number least s = (number least ≤ℤ number s) × ((least.line ≤ s.line) ⊎ (number least <ℤ number s))

-- it is one of them, and the first with the least number
pub record IsFirstLeast (number : Shown → ℤ) (xs : List Shown) (least : Shown) : Type 0 where
  pub among : Contains xs least
  pub bound : All (IsFirst number least) xs

-- there is a least of any lines
pub least_by-none : (f : Shown → ℤ) (xs : List Shown) → least_by f xs ≡ None → xs ≡ []
least_by-none f [] e = refl
least_by-none f (x ∷ xs) e = absurd (by (least_by f xs) e)
  where
    choose : (y : Shown) (t : Bool) → int_lt (f x) (f y) ≡ t → lesser f x (Some y) ≡ None → ⊥
    choose y true g h = let chosen = rw g at h in cc chosen
    choose y false g h = let chosen = rw g at h in cc chosen

    by : (o : Option Shown) → lesser f x o ≡ None → ⊥
    by None h = cc
    by (Some y) h = choose y (int_lt (f x) (f y)) refl h

-- what `least_by` finds among lines that rise
pub least_by-first : (f : Shown → ℤ) (xs : List Shown) (least : Shown) → LinesRise xs → least_by f xs ≡ Some least
    → IsFirstLeast f xs least
least_by-first f [] least rise e = cc
least_by-first f (x ∷ xs) least rise e = by (λ y. least_by-first f xs y rise.1) (least_by f xs) refl e
  where
    -- it is the newest
    here : All (λ s. f x <ℤ f s) xs → IsFirstLeast f (x ∷ xs) x
    here greater = record {
      among = Contains-get_or (x ∷ xs) 0 x (omega arith);
      bound = All-cons (IsFirst f x) x xs (omega (arith, ints), inl (omega arith))
          (All-weaker (λ s. f x <ℤ f s) (IsFirst f x) (λ s h. (omega (arith, ints), inr h)) xs greater);
    }

    -- it is the least of the others
    there : (y : Shown) → f y ≤ℤ f x → IsFirstLeast f xs y → IsFirstLeast f (x ∷ xs) y
    there y h first = record {
      among = Contains-append_right (x ∷ []) xs y first.among;
      bound =
          All-cons (IsFirst f y) x xs (
            h,
            inl (let below = All-contains (λ s. s.line < x.line) xs y rise.0 first.among in omega arith),
          ) first.bound;
    }

    choose : (y : Shown) → IsFirstLeast f xs y → (t : Bool) → int_lt (f x) (f y) ≡ t → lesser f x (Some y) ≡ Some least
        → IsFirstLeast f (x ∷ xs) least
    choose y first true g h =
        let same : x ≡ least = cc (rw g at h) in
        rw (← same)
        (here (All-weaker (IsFirst f y) (λ s. f x <ℤ f s) (λ s b. omega (arith, ints, g, b.0)) xs first.bound))
    choose y first false g h =
        let same : y ≡ least = cc (rw g at h) in
        rw (← same) (there y (omega (arith, ints, g)) first)

    by : ((y : Shown) → least_by f xs ≡ Some y → IsFirstLeast f xs y) → (o : Option Shown) → least_by f xs ≡ o
        → lesser f x o ≡ Some least
        → IsFirstLeast f (x ∷ xs) least
    by behind None o h =
        let same : x ≡ least = cc in
        let none : xs ≡ [] = least_by-none f xs o in
        rw (← same) (here (rw none (All-nil (λ s. f x <ℤ f s))))
    by behind (Some y) o h = choose y (behind y o) (int_lt (f x) (f y)) refl h

-- The worst line's excess is the greater of what the lead rose from the line of the least lead, and of what the lag
-- rose from that of the least lag; where one of the two is greater, the line is that one.
pub record IsWorst (error : ℕ) (now by_lead by_lag worst : Shown) : Type 0 where
  pub greater : IsGreater (lead_rise error by_lead now) (lag_rise error by_lag now) (excess error worst now)
  pub lead_line : lag_rise error by_lag now <ℤ lead_rise error by_lead now → worst.line ≡ by_lead.line
  pub lag_line : lead_rise error by_lead now <ℤ lag_rise error by_lag now → worst.line ≡ by_lag.line

-- the bounds at one line, of three numbers that are least at three lines
pub worst-from_bounds : (error : ℕ) (now a b w : Shown)
    → IsFirst (λ s. lead error s.time s.value) a w → IsFirst (λ s. lag error s.time s.value) b w
    → IsFirst (λ s. lead error s.time s.value) a b → IsFirst (λ s. lag error s.time s.value) b a
    → IsFirst (λ s. neg_ℤ (excess error s now)) w a → IsFirst (λ s. neg_ℤ (excess error s now)) w b
    → IsWorst error now a b w
worst-from_bounds error now a b w aw bw ab ba wa wb =
    by (excess-rises error a now) (excess-rises error b now) (excess-rises error w now)
  where
    by : IsGreater (lead_rise error a now) (lag_rise error a now) (excess error a now)
        → IsGreater (lead_rise error b now) (lag_rise error b now) (excess error b now)
        → IsGreater (lead_rise error w now) (lag_rise error w now) (excess error w now)
        → IsWorst error now a b w
    by at_a at_b at_w = record {
      greater = record {
        first = omega (arith, ints);
        second = omega (arith, ints);
        either = elim at_w.either [ inl h ↦ inl (omega (arith, ints)) | inr h ↦ inr (omega (arith, ints)) ];
      };
      lead_line = λ h. omega (arith, ints);
      lag_line = λ h. omega (arith, ints);
    }
