-- What the excess is: how much the lead or the lag rose, and whether the oscillator keeps its error.
use Rattle.std.proofs.Common.{◌≡◌, ℕ, ◌+◌, ◌-◌, ◌*◌, ◌≤◌, ◌⊎◌, inl, inr, refl, arith, ap}
use Rattle.std.specs.Prelude.{ℤ, pos, negsuc, ◌-ℤ◌, ◌≤ℤ◌, ◌↔◌}
use Rattle.std.proofs.lemmas.Int.{ints}
use Rattle.css_model.specs.declared.TheConstants.{F}
use Rattle.css_model.proofs.Division.{times_difference}
use Rattle.css_moments.specs.Drifts.{Shown, excess, Keeps}
use Rattle.css_moments.specs.Numbers.{lead, lag}

-- how much the lead rose from an earlier line, beyond a nanosecond
abbrev pub lead_rise : (error : ℕ) → (earlier now : Shown) → ℤ
lead_rise error earlier now = lead error now.time now.value -ℤ lead error earlier.time earlier.value -ℤ pos F

-- how much the lag rose from an earlier line, beyond a nanosecond
abbrev pub lag_rise : (error : ℕ) → (earlier now : Shown) → ℤ
lag_rise error earlier now = lag error now.time now.value -ℤ lag error earlier.time earlier.value -ℤ pos F

-- the excess is the greater of the two
pub record IsGreater (a b greater : ℤ) : Type 0 where
  pub first : a ≤ℤ greater
  pub second : b ≤ℤ greater
  pub either : (greater ≤ℤ a) ⊎ (greater ≤ℤ b)

-- The excess, for a number that says what the clock gained, one way or the other.
pub excess-rises : (error : ℕ) (earlier now : Shown)
    → IsGreater (lead_rise error earlier now) (lag_rise error earlier now) (excess error earlier now)
excess-rises error earlier now = by ((pos now.value -ℤ pos earlier.value) -ℤ (pos now.time -ℤ pos earlier.time)) refl
  where
    by : (gained : ℤ) → (pos now.value -ℤ pos earlier.value) -ℤ (pos now.time -ℤ pos earlier.time) ≡ gained
        → IsGreater (lead_rise error earlier now) (lag_rise error earlier now) (excess error earlier now)
    by (pos n) e = rw e (record {
      first = omega (arith, ints, times_difference error now.time earlier.time);
      second = omega (arith, ints, times_difference error now.time earlier.time);
      either = inl (omega (arith, ints, times_difference error now.time earlier.time));
    })
    by (negsuc n) e = rw e (record {
      first = omega (arith, ints, times_difference error now.time earlier.time);
      second = omega (arith, ints, times_difference error now.time earlier.time);
      either = inr (omega (arith, ints, times_difference error now.time earlier.time));
    })

-- the oscillator keeps its error exactly where the excess isn't above 0
pub excess-keeps : (error : ℕ) (earlier now : Shown) → earlier.time ≤ now.time → (excess error earlier now ≤ℤ pos 0)
    ↔ Keeps error earlier now
excess-keeps error earlier now later = by (excess-rises error earlier now)
  where
    by : IsGreater (lead_rise error earlier now) (lag_rise error earlier now) (excess error earlier now)
        → (excess error earlier now ≤ℤ pos 0) ↔ Keeps error earlier now
    by greater =
        let parts : now.time ≡ earlier.time + (now.time - earlier.time) = omega arith in
        let products : error * now.time ≡ error * earlier.time + error * (now.time - earlier.time) =
        omega (arith, ap (λ n. error * n) parts) in
        (λ h. (omega (arith, ints), omega (arith, ints)), λ keeps. omega (arith, ints))
