-- How what a clock reads changes as its root rises.
use Rattle.std.proofs.Common.{◌≡◌, ℕ, ◌*◌, ◌⊎◌, inl, inr, refl, arith, suc, zero, true, false}
use Rattle.std.specs.Prelude.{ℤ, pos, negsuc, ◌+ℤ◌, ◌-ℤ◌, ◌*ℤ◌, ◌≤ℤ◌, cond, int_lt}
use Rattle.std.specs.Int.{int_min, int_max}
use Rattle.std.proofs.lemmas.Int.{ints, clamps}
use Rattle.std.proofs.Math.Nat.{div-zero}
use borrow.Author.Differences.{product_is}
use Rattle.css_num.specs.Rates.{TickRate}
use Rattle.css_num.specs.Division.{floor_div}
use Rattle.css_num.specs.Spans.{Interval, Covers}
use Rattle.css_num.proofs.Rounding.{floor_div-mono, times_pos-mono, times_negsuc-mono}
use Rattle.css_clock.specs.Ticks.{Correlation, factor_of, divisor_of, product_of, child_value, span_of, IsSpanOf}
use Rattle.css_clock.specs.Ticks.{GoesBy}

-- a root reads its own value
pub root_goes : GoesBy (pos 1) (λ root. root)
root_goes = record { rises = λ _ x y h. h; falls = λ e x y h. absurd (omega (arith, ints)) }

-- rounding down keeps the order, by the divisor 0 too
floor_div-keeps : (x y : ℤ) (d : ℕ) → x ≤ℤ y → floor_div x d ≤ℤ floor_div y d
floor_div-keeps (pos a) (pos b) zero h = omega (arith, ints, div-zero a, div-zero b)
floor_div-keeps (pos a) (negsuc b) zero h = absurd (omega (arith, ints))
floor_div-keeps (negsuc a) (pos b) zero h = omega (arith, ints, div-zero a, div-zero b)
floor_div-keeps (negsuc a) (negsuc b) zero h = omega (arith, ints, div-zero a, div-zero b)
floor_div-keeps x y (suc d) h = floor_div-mono x y (suc d) (omega arith) h

-- a factor that isn't below zero keeps the order
pub times_nonneg-mono : (x y k : ℤ) → pos 0 ≤ℤ k → x ≤ℤ y → (x *ℤ k) ≤ℤ (y *ℤ k)
times_nonneg-mono x y (pos n) p h = times_pos-mono x y n h
times_nonneg-mono x y (negsuc n) p h = absurd (omega (arith, ints))

-- a factor that isn't above zero turns it round
times_nonpos-mono : (x y k : ℤ) → k ≤ℤ pos 0 → x ≤ℤ y → (y *ℤ k) ≤ℤ (x *ℤ k)
times_nonpos-mono x y (pos zero) p h = omega (arith, ints, product_is x (pos 0), product_is y (pos 0))
times_nonpos-mono x y (pos (suc n)) p h = absurd (omega (arith, ints))
times_nonpos-mono x y (negsuc n) p h = times_negsuc-mono x y n h

-- a sum rises with its second part
plus_left-mono : (z x y : ℤ) → x ≤ℤ y → (z +ℤ x) ≤ℤ (z +ℤ y)
plus_left-mono z x y h = omega (arith, ints)

-- a product of a number of ticks and a speed has the speed's sign, or is 0
scaled_nonneg : (n : ℕ) (speed : ℤ) → pos 0 ≤ℤ speed → pos 0 ≤ℤ (pos n *ℤ speed)
scaled_nonneg n (pos s) p = omega (arith, ints)
scaled_nonneg n (negsuc s) p = absurd (omega (arith, ints))

-- the same of a speed that isn't above zero
scaled_nonpos : (n : ℕ) (speed : ℤ) → speed ≤ℤ pos 0 → (pos n *ℤ speed) ≤ℤ pos 0
scaled_nonpos n (pos zero) p = omega (arith, ints, product_is (pos n) (pos 0))
scaled_nonpos n (pos (suc s)) p = absurd (omega (arith, ints))
scaled_nonpos n (negsuc s) p = omega (arith, ints, product_is (pos n) (negsuc s))

-- where the factor isn't below zero, the child goes the way of its parent
pub child-along : (rate parent_rate : TickRate) (correlation : Correlation) (x y : ℤ) → pos 0 ≤ℤ correlation.speed
    → x ≤ℤ y
    → child_value rate parent_rate correlation x ≤ℤ child_value rate parent_rate correlation y
child-along rate parent_rate correlation x y p h =
    let factor = factor_of rate parent_rate correlation.speed in
    let positive : pos 0 ≤ℤ factor_of rate parent_rate correlation.speed =
    scaled_nonneg (rate.units_per_second * parent_rate.units_per_tick) correlation.speed p in
    let shifted : (x -ℤ correlation.parent_ticks) ≤ℤ (y -ℤ correlation.parent_ticks) = omega (arith, ints) in
    let products =
    times_nonneg-mono (x -ℤ correlation.parent_ticks) (y -ℤ correlation.parent_ticks)
    (factor_of rate parent_rate correlation.speed) positive shifted in
    let quotients =
    floor_div-keeps (product_of rate parent_rate correlation x) (product_of rate parent_rate correlation y)
    (divisor_of rate parent_rate) products in
    plus_left-mono correlation.child_ticks _ _ quotients

-- where it isn't above zero, the child goes against its parent
pub child-against : (rate parent_rate : TickRate) (correlation : Correlation) (x y : ℤ) → correlation.speed ≤ℤ pos 0
    → x ≤ℤ y
    → child_value rate parent_rate correlation y ≤ℤ child_value rate parent_rate correlation x
child-against rate parent_rate correlation x y p h =
    let negative : factor_of rate parent_rate correlation.speed ≤ℤ pos 0 =
    scaled_nonpos (rate.units_per_second * parent_rate.units_per_tick) correlation.speed p in
    let shifted : (x -ℤ correlation.parent_ticks) ≤ℤ (y -ℤ correlation.parent_ticks) = omega (arith, ints) in
    let products =
    times_nonpos-mono (x -ℤ correlation.parent_ticks) (y -ℤ correlation.parent_ticks)
    (factor_of rate parent_rate correlation.speed) negative shifted in
    let quotients =
    floor_div-keeps (product_of rate parent_rate correlation y) (product_of rate parent_rate correlation x)
    (divisor_of rate parent_rate) products in
    plus_left-mono correlation.child_ticks _ _ quotients

-- a product that isn't below zero has factors of one sign
same_sign : (x y : ℤ) → pos 0 ≤ℤ (x *ℤ y) → ((pos 0 ≤ℤ x) × (pos 0 ≤ℤ y)) ⊎ ((x ≤ℤ pos 0) × (y ≤ℤ pos 0))
same_sign (pos a) (pos b) h = inl (omega (arith, ints), omega (arith, ints))
same_sign (pos zero) (negsuc b) h = inr (omega (arith, ints), omega (arith, ints))
same_sign (pos (suc a)) (negsuc b) h = absurd (omega (arith, ints))
same_sign (negsuc a) (pos zero) h = inr (omega (arith, ints), omega (arith, ints))
same_sign (negsuc a) (pos (suc b)) h = absurd (omega (arith, ints))
same_sign (negsuc a) (negsuc b) h = inr (omega (arith, ints), omega (arith, ints))

-- a product that isn't above zero has factors of two signs
two_signs : (x y : ℤ) → (x *ℤ y) ≤ℤ pos 0 → ((pos 0 ≤ℤ x) × (y ≤ℤ pos 0)) ⊎ ((x ≤ℤ pos 0) × (pos 0 ≤ℤ y))
two_signs (pos a) (negsuc b) h = inl (omega (arith, ints), omega (arith, ints))
two_signs (negsuc a) (pos b) h = inr (omega (arith, ints), omega (arith, ints))
two_signs (pos zero) (pos b) h = inr (omega (arith, ints), omega (arith, ints))
two_signs (pos (suc a)) (pos zero) h = inl (omega (arith, ints), omega (arith, ints))
two_signs (pos (suc a)) (pos (suc b)) h = absurd (omega (arith, ints))
two_signs (negsuc a) (negsuc b) h = absurd (omega (arith, ints))

-- a clock on a parent goes by the product of the speeds
pub child_goes : (rate parent_rate : TickRate) (correlation : Correlation) (speeds : ℤ) (value : ℤ → ℤ)
    → GoesBy speeds value
    → GoesBy (speeds *ℤ correlation.speed) (λ root. child_value rate parent_rate correlation (value root))
child_goes rate parent_rate correlation speeds value parent =
    let along = child-along rate parent_rate correlation in
    let against = child-against rate parent_rate correlation in
    record {
      rises = λ p x y h. elim (same_sign speeds correlation.speed p) [
        | inl signs ↦ along (value x) (value y) signs.1 (parent.rises signs.0 x y h)
        | inr signs ↦ against (value y) (value x) signs.1 (parent.falls signs.0 x y h)
      ];
      falls = λ p x y h. elim (two_signs speeds correlation.speed p) [
        | inl signs ↦ against (value x) (value y) signs.1 (parent.rises signs.0 x y h)
        | inr signs ↦ along (value y) (value x) signs.1 (parent.falls signs.0 x y h)
      ];
    }

-- what lies between two numbers, in this order or the other, lies between the lesser and the greater
pub between : (first number last : ℤ) → first ≤ℤ number → number ≤ℤ last
    → Covers (record { lo = int_min first last; hi = int_max first last }) number
between first number last p q = record { low = omega (arith, ints, clamps); high = omega (arith, ints, clamps) }

-- the same where the first number is the greater
pub between_back : (first number last : ℤ) → last ≤ℤ number → number ≤ℤ first
    → Covers (record { lo = int_min first last; hi = int_max first last }) number
between_back first number last p q = record { low = omega (arith, ints, clamps); high = omega (arith, ints, clamps) }

-- the lesser of two numbers is one of them
min_is_one : (x y : ℤ) → (x ≡ int_min x y) ⊎ (y ≡ int_min x y)
min_is_one x y = elim (int_lt y x) as (λ b. (x ≡ cond b y x) ⊎ (y ≡ cond b y x)) [ true ↦ inr refl | false ↦ inl refl ]

-- and so is the greater
max_is_one : (x y : ℤ) → (x ≡ int_max x y) ⊎ (y ≡ int_max x y)
max_is_one x y = elim (int_lt y x) as (λ b. (x ≡ cond b x y) ⊎ (y ≡ cond b x y)) [ true ↦ inl refl | false ↦ inr refl ]

-- an end that is one of the readings at the ends is a reading
reached : (value : ℤ → ℤ) (root : Interval) (end : ℤ) → root.lo ≤ℤ root.hi → (value root.lo ≡ end)
    ⊎ (value root.hi ≡ end)
    → (number : ℤ) × Covers root number × (value number ≡ end)
reached value root end ordered (inl e) = (root.lo, record { low = omega (arith, ints); high = ordered }, e)
reached value root end ordered (inr e) = (root.hi, record { low = ordered; high = omega (arith, ints) }, e)

-- one of two ways
pub one_way : (speeds : ℤ) → (pos 0 ≤ℤ speeds) ⊎ (speeds ≤ℤ pos 0)
one_way (pos n) = inl (omega (arith, ints))
one_way (negsuc n) = inr (omega (arith, ints))

-- the readings at the ends are the least span of all readings between
pub span_of-all : (speeds : ℤ) (value : ℤ → ℤ) (root : Interval) → GoesBy speeds value → root.lo ≤ℤ root.hi
    → IsSpanOf value root (span_of value root)
span_of-all speeds value root goes ordered =
    record {
      covered = λ number inside. elim (one_way speeds) [
        | inl rising ↦
            between (value root.lo) (value number) (value root.hi) (goes.rises rising root.lo number inside.low)
            (goes.rises rising number root.hi inside.high)
        | inr falling ↦
            between_back (value root.lo) (value number) (value root.hi) (goes.falls falling number root.hi inside.high)
            (goes.falls falling root.lo number inside.low)
      ];
      lo_reached =
          reached value root (int_min (value root.lo) (value root.hi)) ordered
          (min_is_one (value root.lo) (value root.hi));
      hi_reached =
          reached value root (int_max (value root.lo) (value root.hi)) ordered
          (max_is_one (value root.lo) (value root.hi));
    }

-- what a function answers that gives them
pub IsSpanOf-answer : (speeds : ℤ) (value : ℤ → ℤ) (root span : Interval) → GoesBy speeds value → root.lo ≤ℤ root.hi
    → span ≡ span_of value root → IsSpanOf value root span
IsSpanOf-answer speeds value root span goes ordered e = rw e (span_of-all speeds value root goes ordered)
