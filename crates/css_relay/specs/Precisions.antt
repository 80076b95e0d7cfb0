-- The precision that a relay declares.
use Rattle.std.specs.Prelude.{ℕ, zero, suc, ◌≤◌, ◌<◌, ℤ, pos, neg_ℤ, ◌-ℤ◌, ◌≤ℤ◌, ◌<ℤ◌, nat_lt, if◌then◌else◌}
use Rattle.css_model.specs.Numbers.{precision_ns}

-- Of the exponents from 30 less `before` up to 30, the first whose precision isn't below the half width; 30 where there
-- is none.
abbrev pub first_enough : ℕ → ℕ → ℤ
first_enough zero half = pos 30
first_enough (suc before) half =
    if nat_lt (precision_ns (pos 30 -ℤ pos (suc before))) half then first_enough before half
    else pos 30 -ℤ pos (suc before)

-- the least exponent from -30 to 30 whose precision isn't below the half width
unfoldable pub exponent_for : ℕ → ℤ
exponent_for half = first_enough 60 half

-- the exponent is from -30 to 30, its precision isn't below the half width, and that of each lesser one is
pub record IsLeastExponent (half : ℕ) (exponent : ℤ) : Type 0 where
  pub low : neg_ℤ (pos 30) ≤ℤ exponent
  pub high : exponent ≤ℤ pos 30
  pub enough : half ≤ precision_ns exponent
  pub least : (lesser : ℤ) → neg_ℤ (pos 30) ≤ℤ lesser → lesser <ℤ exponent → precision_ns lesser < half

-- The exponent that a relay declares for a half width is the least, if the greatest precision isn't below the half
-- width.
abbrev pub ExponentsAreLeast : Type 0
ExponentsAreLeast = (half : ℕ) → half ≤ precision_ns (pos 30) → IsLeastExponent half (exponent_for half)
