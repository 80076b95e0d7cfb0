-- Whole numbers divided by a whole number above zero, rounded down or up.
use Rattle.std.specs.Prelude.{ℕ, ℤ, pos, neg_ℤ, ◌+ℤ◌, ◌-ℤ◌, ◌*ℤ◌, ◌≤ℤ◌, ◌<ℤ◌}
use Rattle.std.specs.Int.{int_div_euclid}

-- the quotient, rounded down
abbrev pub floor_div : ℤ → ℕ → ℤ
floor_div number divisor = int_div_euclid number (pos divisor)

-- the quotient, rounded up
abbrev pub ceil_div : ℤ → ℕ → ℤ
ceil_div number divisor = neg_ℤ (floor_div (neg_ℤ number) divisor)

-- the quotient is the greatest whole number that, times the divisor, isn't above the number
pub record IsFloor (number : ℤ) (divisor : ℕ) (quotient : ℤ) : Type 0 where
  pub reached : (quotient *ℤ pos divisor) ≤ℤ number
  pub greatest : number <ℤ ((quotient +ℤ pos 1) *ℤ pos divisor)

-- the quotient is the least whole number that, times the divisor, isn't below the number
pub record IsCeiling (number : ℤ) (divisor : ℕ) (quotient : ℤ) : Type 0 where
  pub reached : number ≤ℤ (quotient *ℤ pos divisor)
  pub least : ((quotient -ℤ pos 1) *ℤ pos divisor) <ℤ number
