-- The exponent that is declared is the least whose precision isn't below the half width.
use Rattle.std.proofs.Common.{◌≡◌, ℕ, zero, suc, ◌≤◌, ◌<◌, arith, subst, refl, Bool, true, false, cond}
use Rattle.std.specs.Prelude.{ℤ, pos, neg_ℤ, ◌+ℤ◌, ◌-ℤ◌, ◌≤ℤ◌, ◌<ℤ◌, nat_lt}
use Rattle.std.proofs.lemmas.Bool.{ltb-true, ltb-false}
use Rattle.std.proofs.lemmas.Int.{ints, by_lt_z}
use Rattle.css_model.specs.Numbers.{precision_ns}
use Rattle.css_relay.specs.Precisions.{first_enough, exponent_for, IsLeastExponent, ExponentsAreLeast}

-- each exponent from -30 to below this one has a precision below the half width
abbrev pub AreTooFine : ℕ → ℤ → Type 0
AreTooFine half exponent = (lesser : ℤ) → neg_ℤ (pos 30) ≤ℤ lesser → lesser <ℤ exponent → precision_ns lesser < half

-- one more is too fine
pub one_more : (half : ℕ) (exponent next : ℤ) → next ≤ℤ (exponent +ℤ pos 1) → precision_ns exponent < half
    → AreTooFine half exponent → AreTooFine half next
one_more half exponent next step fine below lesser from under =
    by_lt_z lesser exponent (λ less. below lesser from less) (λ no.
    let same : exponent ≡ lesser = omega (arith, ints, no, under, step) in
    subst (λ (e : ℤ). precision_ns e < half) same fine)

-- an exponent that isn't too fine, where all before are
pub found_least : (half : ℕ) (exponent : ℤ) → neg_ℤ (pos 30) ≤ℤ exponent → exponent ≤ℤ pos 30
    → half ≤ precision_ns exponent → AreTooFine half exponent → IsLeastExponent half exponent
found_least half exponent low high enough below =
    record { low = low; high = high; enough = enough; least = below }

-- the first that isn't too fine is the least
first_is_least : (before half : ℕ) → before ≤ 60 → half ≤ precision_ns (pos 30)
    → AreTooFine half (pos 30 -ℤ pos before) → IsLeastExponent half (first_enough before half)
first_is_least zero half small enough below = record {
  low = omega (arith, ints);
  high = omega (arith, ints);
  enough = enough;
  least = λ lesser from under. below lesser from (omega (arith, ints, under));
}
first_is_least (suc before) half small enough below =
    by (nat_lt (precision_ns (pos 30 -ℤ pos (suc before))) half) refl
    (first_is_least before half (omega arith) enough)
  where
    by : (test : Bool) → nat_lt (precision_ns (pos 30 -ℤ pos (suc before))) half ≡ test
        → (AreTooFine half (pos 30 -ℤ pos before) → IsLeastExponent half (first_enough before half))
        → IsLeastExponent half (cond test (first_enough before half) (pos 30 -ℤ pos (suc before)))
    by true fine later =
        later
        (one_more half (pos 30 -ℤ pos (suc before)) (pos 30 -ℤ pos before) (omega (arith, ints))
        (ltb-true (precision_ns (pos 30 -ℤ pos (suc before))) half fine) below)
    by false wide later = record {
      low = omega (arith, ints);
      high = omega (arith, ints);
      enough = ltb-false (precision_ns (pos 30 -ℤ pos (suc before))) half wide;
      least = below;
    }

pub exponents_are_least : ExponentsAreLeast
unfolding exponent_for
exponents_are_least half enough =
    first_is_least 60 half (omega arith) enough (λ lesser from under. absurd (omega (arith, ints, from, under)))

-- there is one least exponent
only_one : (half : ℕ) (a b : ℤ) → IsLeastExponent half a → IsLeastExponent half b → a ≡ b
only_one half a b p q =
    by_lt_z a b (λ less. absurd (omega (arith, q.least a p.low less, p.enough))) (λ no.
    by_lt_z b a (λ less. absurd (omega (arith, p.least b q.low less, q.enough))) (λ nor. omega (arith, ints, no, nor)))

-- a least exponent is the one that is declared
pub is_exponent : (half : ℕ) (exponent : ℤ) → half ≤ precision_ns (pos 30) → IsLeastExponent half exponent
    → exponent ≡ exponent_for half
is_exponent half exponent enough least =
    only_one half exponent (exponent_for half) least (exponents_are_least half enough)
