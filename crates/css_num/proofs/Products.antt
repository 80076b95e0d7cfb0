-- A product of two numbers, as 128 bits hold it.
use Rattle.std.proofs.Common.{◌≡◌, ℕ, ◌*◌, ◌^◌, ◌<◌, ◌≤◌, sym, ap, ap₂, ◌∙◌, subst}
use Rattle.std.specs.Prelude.{ℤ, ◌*ℤ◌, unsigned_abs}
use Rattle.std.proofs.lemmas.Int.{to_z-of_z, unsigned_abs-mul, fits_signed_mul}
use native.Mathlib.Nat.{mul-le-mul}
use mir.Syntax.{w128}
use mir.Val.{to_z, of_z, SFits}

abbrev pub held : ℤ → ℤ
held x = to_z w128 (of_z w128 x)

-- x and y are a and b, whose product fits; its size is at most m times n
pub record IsProduct (x y a b : ℤ) (m n : ℕ) : Type 0 where
  pub fits : SFits w128 (x *ℤ y)
  pub exact : held (x *ℤ y) ≡ a *ℤ b
  pub size : unsigned_abs (held (x *ℤ y)) ≤ m * n

pub product : (x y a b : ℤ) (m n : ℕ) → x ≡ a → y ≡ b → unsigned_abs a ≤ m → unsigned_abs b ≤ n → m * n < 2 ^ 127
    → IsProduct x y a b m n
product x y a b m n is same p q small =
    let fits : SFits w128 (a *ℤ b) = fits_signed_mul w128 a b m n p q small in
    let equal : x *ℤ y ≡ a *ℤ b = ap₂ ◌*ℤ◌ is same in
    let exact : held (x *ℤ y) ≡ a *ℤ b = ap held equal ∙ to_z-of_z w128 (a *ℤ b) fits in
    record {
      fits = subst (SFits w128) (sym equal) fits;
      exact = exact;
      size = subst (λ k. k ≤ m * n) (sym (ap unsigned_abs exact ∙ unsigned_abs-mul a b)) (mul-le-mul p q);
    }
