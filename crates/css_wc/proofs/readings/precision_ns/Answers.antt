-- Where 2^-exponent is above 10^9, the quotient rounded up is 1.
use Rattle.std.proofs.Common.{◌≡◌, sym, ℕ, suc, ◌*◌, ◌%◌, ◌^◌, ◌<◌, ◌≤◌, arith, to_z, of_z, w8}
use Rattle.std.specs.Prelude.{ℤ, pos, negsuc, ◌≤ℤ◌, unsigned_abs}
use Rattle.std.specs.Int.{div_ceil}
use Rattle.std.proofs.lemmas.Int.{ints}
use Rattle.std.proofs.Math.Nat.{pow-le-pow_right, div-eq_of_lt, mod-eq_of_lt, mod-le}
use Rattle.css_model.specs.Wire.{second}
use Rattle.css_model.specs.Numbers.{precision_ns}
use Rattle.css_wc.specs.Precision.{IsRoundedUp}
use Rattle.css_wc.proofs.readings.precision_ns.Goals as goal

div_ceil-of_lt : (a b : ℕ) → 0 < a → a < b → div_ceil a b ≡ 1
div_ceil-of_lt a b above below = rw (div-eq_of_lt below, mod-eq_of_lt below) (omega arith)

-- 2^30 is above 10^9
above_second : (k : ℕ) → 29 ≤ k → second < 2 ^ suc k
above_second k large = let least : 2 ^ 30 ≤ 2 ^ suc k =
    pow-le-pow_right {n = 2} (omega arith) {i = 30} {j = suc k} (omega arith) in omega arith

smallest : (exponent : ℤ) → exponent ≤ℤ negsuc 29 → 1 ≡ precision_ns exponent
smallest (pos k) h = absurd (omega (arith, ints))
smallest (negsuc k) h = sym (div_ceil-of_lt second (2 ^ suc k) (omega arith) (above_second k (omega (arith, ints))))

smallest_rounded : (exponent : ℤ) → exponent ≤ℤ negsuc 29 → IsRoundedUp exponent 1
smallest_rounded (pos k) h = absurd (omega (arith, ints))
smallest_rounded (negsuc k) h = let above = above_second k (omega (arith, ints)) in (omega arith, omega arith)

pub returns-else-exponent-gtminus30-clause-value : goal.returns-else-exponent-gtminus30-clause-value
returns-else-exponent-gtminus30-clause-value c = smallest c.args.exponent (omega (arith, ints))

pub returns-else-exponent-gtminus30-clause-rounded_up : goal.returns-else-exponent-gtminus30-clause-rounded_up
returns-else-exponent-gtminus30-clause-rounded_up c = smallest_rounded c.args.exponent (omega (arith, ints))

pub returns-then-exponent-ge0-clause-range : goal.returns-then-exponent-ge0-clause-range
returns-then-exponent-ge0-clause-range c =
    let shift = unsigned_abs (to_z w8 (of_z w8 c.args.exponent)) in
    let small : unsigned_abs (to_z w8 (of_z w8 c.args.exponent)) ≤ 30 = omega (arith, ints) in
    let most : 2 ^ unsigned_abs (to_z w8 (of_z w8 c.args.exponent)) ≤ 2 ^ 30 =
    pow-le-pow_right {n = 2} (omega arith) {i = unsigned_abs (to_z w8 (of_z w8 c.args.exponent))} {j = 30} small in
    let kept : 1000000000 * 2 ^ shift % 18446744073709551616 ≤ 1000000000 * 2 ^ shift =
    mod-le (1000000000 * 2 ^ shift) 18446744073709551616 in
    omega arith
