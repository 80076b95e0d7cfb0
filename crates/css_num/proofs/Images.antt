-- The image of an interval covers the image of each of its numbers, and both its ends are such images.
use Rattle.std.proofs.Common.{◌≡◌, ℕ, ◌<◌, ◌⊎◌, inl, inr, refl, arith, true, false}
use Rattle.std.specs.Prelude.{ℤ, pos, negsuc, ◌≤ℤ◌, ◌<ℤ◌, ◌*ℤ◌, unsigned_abs, cond, int_lt}
use Rattle.std.specs.Int.{int_min, int_max}
use Rattle.std.proofs.lemmas.Int.{ints, clamps}
use Rattle.css_num.specs.Spans.{Interval, Covers, scaled_number, image_of, IsImage}
use Rattle.css_num.proofs.Rounding.{floor_div-mono, times_pos-mono, times_negsuc-mono}

-- what lies between two numbers, in this order or the other, lies between the lesser and the greater
rising : (first number last : ℤ) → first ≤ℤ number → number ≤ℤ last
    → Covers (record { lo = int_min first last; hi = int_max first last }) number
rising first number last p q = record { low = omega (arith, ints, clamps); high = omega (arith, ints, clamps) }

-- the same where the first number is the greater
falling : (first number last : ℤ) → last ≤ℤ number → number ≤ℤ first
    → Covers (record { lo = int_min first last; hi = int_max first last }) number
falling first number last p q = record { low = omega (arith, ints, clamps); high = omega (arith, ints, clamps) }

-- the image covers what each number of the interval becomes
covered : (interval : Interval) (num : ℤ) (den : ℕ) → 0 < den → (number : ℤ) → Covers interval number
    → Covers (image_of interval num den) (scaled_number number num den)
covered interval (pos n) den p number inside =
    rising (scaled_number interval.lo (pos n) den) (scaled_number number (pos n) den)
    (scaled_number interval.hi (pos n) den)
    (floor_div-mono (interval.lo *ℤ pos n) (number *ℤ pos n) den p (times_pos-mono interval.lo number n inside.low))
    (floor_div-mono (number *ℤ pos n) (interval.hi *ℤ pos n) den p (times_pos-mono number interval.hi n inside.high))
covered interval (negsuc n) den p number inside =
    falling (scaled_number interval.lo (negsuc n) den) (scaled_number number (negsuc n) den)
    (scaled_number interval.hi (negsuc n) den)
    (floor_div-mono (interval.hi *ℤ negsuc n) (number *ℤ negsuc n) den p
    (times_negsuc-mono number interval.hi n inside.high))
    (floor_div-mono (number *ℤ negsuc n) (interval.lo *ℤ negsuc n) den p
    (times_negsuc-mono interval.lo number n inside.low))

-- the lesser and the greater of two numbers are among them
min_is_one : (x y : ℤ) → (x ≡ int_min x y) ⊎ (y ≡ int_min x y)
min_is_one x y = elim (int_lt y x) as (λ b. (x ≡ cond b y x) ⊎ (y ≡ cond b y x)) [ true ↦ inr refl | false ↦ inl refl ]

-- and so is the greater
max_is_one : (x y : ℤ) → (x ≡ int_max x y) ⊎ (y ≡ int_max x y)
max_is_one x y = elim (int_lt y x) as (λ b. (x ≡ cond b x y) ⊎ (y ≡ cond b x y)) [ true ↦ inl refl | false ↦ inr refl ]

-- one of two ends that a number is comes from a number of the interval
reached : (interval : Interval) (num : ℤ) (den : ℕ) (end : ℤ) → interval.lo ≤ℤ interval.hi
    → (scaled_number interval.lo num den ≡ end) ⊎ (scaled_number interval.hi num den ≡ end)
    → (number : ℤ) × Covers interval number × (scaled_number number num den ≡ end)
reached interval num den end ordered (inl e) = (interval.lo, record { low = omega (arith, ints); high = ordered }, e)
reached interval num den end ordered (inr e) = (interval.hi, record { low = ordered; high = omega (arith, ints) }, e)

-- the interval of the two ends is the image
pub IsImage-image_of : (interval : Interval) (num : ℤ) (den : ℕ) → 0 < den → interval.lo ≤ℤ interval.hi
    → IsImage interval num den (image_of interval num den)
IsImage-image_of interval num den p ordered =
    let first = scaled_number interval.lo num den in
    let last = scaled_number interval.hi num den in
    record {
      covered = covered interval num den p;
      lo_reached = reached interval num den (int_min first last) ordered (min_is_one first last);
      hi_reached = reached interval num den (int_max first last) ordered (max_is_one first last);
    }

-- what a function answers that gives the image
pub IsImage-answer : (interval image : Interval) (num den : ℤ) → pos 0 <ℤ den → interval.lo ≤ℤ interval.hi
    → image ≡ image_of interval num (unsigned_abs den) → IsImage interval num (unsigned_abs den) image
IsImage-answer interval image num den p ordered e =
    rw e (IsImage-image_of interval num (unsigned_abs den) (omega (arith, ints)) ordered)
