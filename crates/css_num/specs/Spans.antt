-- Intervals of whole numbers, and their images under a factor that is rounded down.
use Rattle.std.specs.Prelude.{◌≡◌, ℕ, ◌^◌, ◌<◌, ℤ, ◌≤ℤ◌, ◌*ℤ◌, unsigned_abs}
use Rattle.std.specs.Int.{int_min, int_max}
use Rattle.css_num.specs.Division.{floor_div}

-- the whole numbers from one end to the other, both included
pub record Interval : Type 0 where
  pub lo : ℤ
  pub hi : ℤ

-- the number lies in the interval
pub record Covers (interval : Interval) (number : ℤ) : Type 0 where
  pub low : interval.lo ≤ℤ number
  pub high : number ≤ℤ interval.hi

-- the number times num / den, rounded down
abbrev pub scaled_number : ℤ → ℤ → ℕ → ℤ
scaled_number number num den = floor_div (number *ℤ num) den

-- the lesser and the greater of the two ends, each times num / den and rounded down
abbrev pub image_of : Interval → ℤ → ℕ → Interval
image_of interval num den =
    let first = scaled_number interval.lo num den in
    let last = scaled_number interval.hi num den in
    record { lo = int_min first last; hi = int_max first last }

-- the products of both ends with the factor are below 2^126 either way
pub record ProductsFit (interval : Interval) (num : ℤ) : Type 0 where
  pub low : unsigned_abs (interval.lo *ℤ num) < 2 ^ 126
  pub high : unsigned_abs (interval.hi *ℤ num) < 2 ^ 126

-- the image is the least interval that covers each number of the interval, times num / den and rounded down
pub record IsImage (interval : Interval) (num : ℤ) (den : ℕ) (image : Interval) : Type 0 where
  pub covered : (number : ℤ) → Covers interval number → Covers image (scaled_number number num den)
  pub lo_reached : (number : ℤ) × Covers interval number × (scaled_number number num den ≡ image.lo)
  pub hi_reached : (number : ℤ) × Covers interval number × (scaled_number number num den ≡ image.hi)
