-- Quotients by a number of 2^27 or more are small.
use Rattle.std.proofs.Common.{ℕ, ◌≤◌, ◌<◌, ◌^◌, arith}
use Rattle.std.specs.Prelude.{ℤ, neg_ℤ, unsigned_abs}
use Rattle.std.proofs.lemmas.Int.{ints}
use Rattle.css_num.specs.Division.{floor_div, ceil_div}
use Rattle.css_num.proofs.Rounding.{floor_div-within}

-- rounded down
pub near-floor_div : (z : ℤ) (d : ℕ) → 134217728 ≤ d → unsigned_abs z < 2 ^ 95 → unsigned_abs (floor_div z d) ≤ 2 ^ 68
near-floor_div z d large small = floor_div-within z (2 ^ 68) d (omega arith) (omega arith)

-- rounded up
pub near-ceil_div : (z : ℤ) (d : ℕ) → 134217728 ≤ d → unsigned_abs z < 2 ^ 95 → unsigned_abs (ceil_div z d) ≤ 2 ^ 68
near-ceil_div z d large small =
    let turned : unsigned_abs (neg_ℤ z) < 2 ^ 95 = omega (arith, ints) in
    let near : unsigned_abs (floor_div (neg_ℤ z) d) ≤ 2 ^ 68 = near-floor_div (neg_ℤ z) d large turned in
    omega (arith, ints)
