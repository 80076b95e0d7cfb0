-- Laws of division that rounds down or up: what the quotient is, and how it compares.
use Rattle.std.proofs.Common.{◌≡◌, ℕ, ◌+◌, ◌*◌, ◌/◌, ◌<◌, ◌≤◌, ◌↔◌, ◌∙◌, arith, ap}
use Rattle.std.specs.Prelude.{ℤ, pos, negsuc, ◌≤ℤ◌, ◌<ℤ◌, ◌+ℤ◌, ◌-ℤ◌, ◌*ℤ◌, neg_ℤ, unsigned_abs}
use Rattle.std.proofs.lemmas.Int.{ints}
use Rattle.std.proofs.lemmas.Nat.{div-add-mod', mod_below}
use Rattle.std.proofs.Math.Nat.{mul-le-mul_right, lt_of_mul-lt-mul_right, le_of_mul-le-mul_right, div-lt_iff_lt-mul}
use Rattle.std.proofs.Math.Nat.{div-le_of_le-mul}
use borrow.Author.Differences.{up, down, neg_is, product_is, same_in}
use Rattle.css_num.specs.Division.{floor_div, ceil_div, IsFloor, IsCeiling}

-- the quotient rounded down, times the divisor, isn't above the number
pub floor_div_times-le : (z : ℤ) (d : ℕ) → 0 < d → (floor_div z d *ℤ pos d) ≤ℤ z
floor_div_times-le (pos a) d p = omega (arith, ints, div-add-mod' a d)
floor_div_times-le (negsuc a) d p = omega (arith, ints, div-add-mod' a d, mod_below a d p)

-- but it is above where the quotient is one more
pub lt-floor_div_next_times : (z : ℤ) (d : ℕ) → 0 < d → z <ℤ ((floor_div z d +ℤ pos 1) *ℤ pos d)
lt-floor_div_next_times (pos a) d p = omega (arith, ints, div-add-mod' a d, mod_below a d p)
lt-floor_div_next_times (negsuc a) d p =
    let next : up (floor_div (negsuc a) d +ℤ pos 1) + (a / d + 1) ≡ down (floor_div (negsuc a) d +ℤ pos 1) + 1 =
    omega (arith, ints) in
    omega (
      arith,
      ints,
      div-add-mod' a d,
      mod_below a d p,
      product_is (floor_div (negsuc a) d +ℤ pos 1) (pos d),
      ap (λ n. n * d) next,
    )

-- a quotient that is computed is the floor
pub IsFloor-floor_div : (z : ℤ) (d : ℕ) → 0 < d → IsFloor z d (floor_div z d)
IsFloor-floor_div z d p = record { reached = floor_div_times-le z d p; greatest = lt-floor_div_next_times z d p }

-- the quotient of the number with the other sign, with the other sign, is the ceiling
pub IsCeiling-negated : (z q : ℤ) (d : ℕ) → IsFloor (neg_ℤ z) d q → IsCeiling z d (neg_ℤ q)
IsCeiling-negated z q d floor =
    let n = neg_is q in
    let m = neg_is z in
    let before : up (neg_ℤ q -ℤ pos 1) + (up q + 1) ≡ down (neg_ℤ q -ℤ pos 1) + down q = omega (arith, ints) in
    let after : up (q +ℤ pos 1) + down q ≡ down (q +ℤ pos 1) + (up q + 1) = omega (arith, ints) in
    record {
      reached =
          omega (
            arith,
            ints,
            floor.reached,
            product_is q (pos d),
            product_is (neg_ℤ q) (pos d),
            ap (λ k. k * d) n.0,
            ap (λ k. k * d) n.1,
          );
      least =
          omega (
            arith,
            ints,
            floor.greatest,
            product_is (q +ℤ pos 1) (pos d),
            product_is (neg_ℤ q -ℤ pos 1) (pos d),
            ap (λ k. k * d) before,
            ap (λ k. k * d) after,
          );
    }

-- a quotient that is computed is the ceiling
pub IsCeiling-ceil_div : (z : ℤ) (d : ℕ) → 0 < d → IsCeiling z d (ceil_div z d)
IsCeiling-ceil_div z d p = IsCeiling-negated z (floor_div (neg_ℤ z) d) d (IsFloor-floor_div (neg_ℤ z) d p)

-- the order of two products by one factor is the order of the numbers
pub lt_of_times-lt : (x y : ℤ) (k : ℕ) → (x *ℤ pos k) <ℤ (y *ℤ pos k) → x <ℤ y
lt_of_times-lt x y k h =
    let products : (up x + down y) * k < (up y + down x) * k = omega (arith, ints) in
    let numbers : up x + down y < up y + down x = lt_of_mul-lt-mul_right k products in
    omega (arith, ints)

-- the same where they may be equal, and the factor is above zero
pub le_of_times-le : (x y : ℤ) (k : ℕ) → 0 < k → (x *ℤ pos k) ≤ℤ (y *ℤ pos k) → x ≤ℤ y
le_of_times-le x y k p h =
    let products : (up x + down y) * k ≤ (up y + down x) * k = omega (arith, ints) in
    let numbers : up x + down y ≤ up y + down x = le_of_mul-le-mul_right products p in
    omega (arith, ints)

-- a factor that isn't below zero keeps the order of two numbers
pub times_pos-mono : (x y : ℤ) (k : ℕ) → x ≤ℤ y → (x *ℤ pos k) ≤ℤ (y *ℤ pos k)
times_pos-mono x y k h =
    let numbers : up x + down y ≤ up y + down x = omega (arith, ints) in
    omega (arith, ints, product_is x (pos k), product_is y (pos k), mul-le-mul_right k numbers)

-- a factor below zero turns it round
pub times_negsuc-mono : (x y : ℤ) (k : ℕ) → x ≤ℤ y → (y *ℤ negsuc k) ≤ℤ (x *ℤ negsuc k)
times_negsuc-mono x y k h =
    let numbers : up x + down y ≤ up y + down x = omega (arith, ints) in
    omega (arith, ints, product_is x (negsuc k), product_is y (negsuc k), mul-le-mul_right (k + 1) numbers)

-- a whole number is at most the quotient rounded down exactly where, times the divisor, it is at most the number
pub le-floor_div_iff : (z w : ℤ) (d : ℕ) → 0 < d → (w ≤ℤ floor_div z d) ↔ ((w *ℤ pos d) ≤ℤ z)
le-floor_div_iff z w d p =
    let floor = IsFloor-floor_div z d p in (
      λ below.
          let products = times_pos-mono w (floor_div z d) d below in
          omega (arith, ints, floor.reached),
      λ below.
          let products : (w *ℤ pos d) <ℤ ((floor_div z d +ℤ pos 1) *ℤ pos d) = omega (arith, ints, floor.greatest) in
          let quotients = lt_of_times-lt w (floor_div z d +ℤ pos 1) d products in
          omega (arith, ints),
    )

-- a whole number is at least the quotient rounded up exactly where, times the divisor, it is at least the number
pub ceil_div-le_iff : (z w : ℤ) (d : ℕ) → 0 < d → (ceil_div z d ≤ℤ w) ↔ (z ≤ℤ (w *ℤ pos d))
ceil_div-le_iff z w d p =
    let ceiling = IsCeiling-ceil_div z d p in (
      λ above.
          let products = times_pos-mono (ceil_div z d) w d above in
          omega (arith, ints, ceiling.reached),
      λ above.
          let products : ((ceil_div z d -ℤ pos 1) *ℤ pos d) <ℤ (w *ℤ pos d) = omega (arith, ints, ceiling.least) in
          let quotients = lt_of_times-lt (ceil_div z d -ℤ pos 1) w d products in
          omega (arith, ints),
    )

-- no other whole number is the floor
pub floor_div-unique : (z q : ℤ) (d : ℕ) → 0 < d → IsFloor z d q → floor_div z d ≡ q
floor_div-unique z q d p floor =
    let own = IsFloor-floor_div z d p in
    let at_least = (le-floor_div_iff z q d p).1 floor.reached in
    let products : (floor_div z d *ℤ pos d) <ℤ ((q +ℤ pos 1) *ℤ pos d) =
    omega (arith, ints, own.reached, floor.greatest) in
    let at_most = lt_of_times-lt (floor_div z d) (q +ℤ pos 1) d products in
    same_in (floor_div z d) q (omega (arith, ints))

-- no other whole number is the ceiling
pub ceil_div-unique : (z q : ℤ) (d : ℕ) → 0 < d → IsCeiling z d q → ceil_div z d ≡ q
ceil_div-unique z q d p ceiling =
    let own = IsCeiling-ceil_div z d p in
    let at_most = (ceil_div-le_iff z q d p).1 ceiling.reached in
    let products : ((q -ℤ pos 1) *ℤ pos d) <ℤ (ceil_div z d *ℤ pos d) =
    omega (arith, ints, own.reached, ceiling.least) in
    let at_least = lt_of_times-lt (q -ℤ pos 1) (ceil_div z d) d products in
    same_in (ceil_div z d) q (omega (arith, ints))

-- a greater number has no lesser quotient
pub floor_div-mono : (x y : ℤ) (d : ℕ) → 0 < d → x ≤ℤ y → floor_div x d ≤ℤ floor_div y d
floor_div-mono x y d p h =
    let floor = IsFloor-floor_div x d p in
    (le-floor_div_iff y (floor_div x d) d p).1 (omega (arith, ints, floor.reached))

-- nor does rounding up change that
pub ceil_div-mono : (x y : ℤ) (d : ℕ) → 0 < d → x ≤ℤ y → ceil_div x d ≤ℤ ceil_div y d
ceil_div-mono x y d p h =
    let ceiling = IsCeiling-ceil_div y d p in
    (ceil_div-le_iff x (ceil_div y d) d p).1 (omega (arith, ints, ceiling.reached))

-- the quotient rounded down isn't above the quotient rounded up
pub floor_div-le-ceil_div : (z : ℤ) (d : ℕ) → 0 < d → floor_div z d ≤ℤ ceil_div z d
floor_div-le-ceil_div z d p =
    let floor = IsFloor-floor_div z d p in
    let ceiling = IsCeiling-ceil_div z d p in
    le_of_times-le (floor_div z d) (ceil_div z d) d p (omega (arith, ints, floor.reached, ceiling.reached))

-- a multiple of the divisor comes out of the division
pub floor_div-add_multiple : (n x : ℤ) (d : ℕ) → 0 < d → floor_div ((pos d *ℤ n) +ℤ x) d ≡ n +ℤ floor_div x d
floor_div-add_multiple n x d p =
    let q = floor_div x d in
    let floor = IsFloor-floor_div x d p in
    let sum : up (n +ℤ floor_div x d) + (down n + down (floor_div x d)) ≡ down (n +ℤ floor_div x d)
    + (up n + up (floor_div x d)) = omega (arith, ints) in
    let next : up (n +ℤ floor_div x d +ℤ pos 1) + (down n + down (floor_div x d)) ≡ down (n +ℤ floor_div x d +ℤ pos 1)
    + (up n + up (floor_div x d) + 1) = omega (arith, ints) in
    let last : up (floor_div x d +ℤ pos 1) + down (floor_div x d) ≡ down (floor_div x d +ℤ pos 1)
    + (up (floor_div x d) + 1) = omega (arith, ints) in
    floor_div-unique ((pos d *ℤ n) +ℤ x) (n +ℤ floor_div x d) d p
    (record {
      reached = omega (arith, ints, floor.reached, ap (λ k. k * d) sum);
      greatest = omega (arith, ints, floor.greatest, ap (λ k. k * d) next, ap (λ k. k * d) last);
    })

-- the same where the quotient is rounded up
pub ceil_div-add_multiple : (n y : ℤ) (d : ℕ) → 0 < d → ceil_div ((pos d *ℤ n) +ℤ y) d ≡ n +ℤ ceil_div y d
ceil_div-add_multiple n y d p =
    let turned : neg_ℤ ((pos d *ℤ n) +ℤ y) ≡ (pos d *ℤ neg_ℤ n) +ℤ neg_ℤ y =
    same_in (neg_ℤ ((pos d *ℤ n) +ℤ y)) ((pos d *ℤ neg_ℤ n) +ℤ neg_ℤ y)
    (omega (
      arith,
      ints,
      product_is (pos d) n,
      product_is (pos d) (neg_ℤ n),
      ap (λ k. d * k) (neg_is n).0,
      ap (λ k. d * k) (neg_is n).1,
    )) in
    let out : floor_div (neg_ℤ ((pos d *ℤ n) +ℤ y)) d ≡ neg_ℤ n +ℤ floor_div (neg_ℤ y) d =
    ap (λ (z : ℤ). floor_div z d) turned ∙ floor_div-add_multiple (neg_ℤ n) (neg_ℤ y) d p in
    ap neg_ℤ out ∙ same_in (neg_ℤ (neg_ℤ n +ℤ floor_div (neg_ℤ y) d)) (n +ℤ neg_ℤ (floor_div (neg_ℤ y) d))
    (omega (arith, ints))

-- what is at most k divisors either way has a quotient of at most k either way
pub floor_div-within : (z : ℤ) (k d : ℕ) → 0 < d → unsigned_abs z ≤ k * d → unsigned_abs (floor_div z d) ≤ k
floor_div-within (pos a) k d p h =
    let within : a ≤ d * k = omega (arith, ints) in
    let quotient : a / d ≤ k = div-le_of_le-mul d within in
    omega (arith, ints)
floor_div-within (negsuc a) k d p h =
    let within : a < k * d = omega (arith, ints) in
    let quotient : a / d < k = (div-lt_iff_lt-mul p).1 within in
    omega (arith, ints)

-- what a function that divides by a whole number above zero answers
pub IsFloor-answer : (a b q : ℤ) → pos 0 <ℤ b → q ≡ floor_div a (unsigned_abs b) → IsFloor a (unsigned_abs b) q
IsFloor-answer a b q p e = rw e (IsFloor-floor_div a (unsigned_abs b) (omega (arith, ints)))

-- the same where it rounds up
pub IsCeiling-answer : (a b q : ℤ) → pos 0 <ℤ b → q ≡ ceil_div a (unsigned_abs b) → IsCeiling a (unsigned_abs b) q
IsCeiling-answer a b q p e = rw e (IsCeiling-ceil_div a (unsigned_abs b) (omega (arith, ints)))
