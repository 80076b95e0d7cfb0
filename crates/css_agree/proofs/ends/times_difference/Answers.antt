-- A product is small where its factors are.
use Rattle.std.proofs.Common.{ℤ, pos, negsuc, ◌≡◌, ◌<◌, ◌^◌, arith, FitsSigned, to_z, of_z}
use Rattle.std.specs.Prelude.{◌*ℤ◌, unsigned_abs}
use Rattle.std.specs.Int.{w128}
use Rattle.std.proofs.lemmas.Int.{unsigned_abs-mul, to_z-of_z}
use Rattle.std.proofs.lemmas.Nat.{mul-lt}
use Rattle.css_agree.proofs.ends.times_difference.Goals as goal

small-product : (a b : ℤ) → unsigned_abs a < 2 ^ 29 → unsigned_abs b < 2 ^ 64 → unsigned_abs (a *ℤ b) < 2 ^ 93
small-product a b small smaller =
    omega (arith, unsigned_abs-mul a b, mul-lt (unsigned_abs a) (unsigned_abs b) (2 ^ 29) (2 ^ 64) small smaller)

fits : (z : ℤ) → unsigned_abs z < 2 ^ 93 → FitsSigned w128 z
fits (pos n) small = record { sfits = omega (arith, small) }
fits (negsuc n) small = record { sfits = omega (arith, small) }

same : (z : ℤ) → unsigned_abs z < 2 ^ 93 → to_z w128 (of_z w128 z) ≡ z
same z small = to_z-of_z w128 z (fits z small)

pub returns-clause-bound : goal.returns-clause-bound
returns-clause-bound c =
    let a = c.from.result in
    let b = c.difference.result in
    let small : unsigned_abs a < 2 ^ 29 = rw c.from.ensures c.requires in
    let product = small-product a b small c.difference.ensures.bound in
    rw (same a (omega (arith, small)), same b (omega (arith, c.difference.ensures.bound)), same (a *ℤ b) product)
    product
