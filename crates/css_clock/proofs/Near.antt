-- How far from 0 the quotients of small products are.
use Rattle.std.proofs.Common.{◌≡◌, ℕ, ◌*◌, ◌^◌, ◌<◌, ◌≤◌, ◌≢◌, refl, arith, true, false, zero, suc, mul-pos}
use Rattle.std.specs.Prelude.{ℤ, pos, negsuc, ◌*ℤ◌, ◌+ℤ◌, ◌-ℤ◌, ◌≤ℤ◌, ◌<ℤ◌, neg_ℤ, unsigned_abs, int_lt, cond}
use Rattle.std.specs.Int.{int_min, int_max}
use Rattle.std.proofs.lemmas.Int.{ints, unsigned_abs-mul}
use Rattle.std.proofs.Math.Nat.{mul-le-mul, mul-le-mul_left}
use borrow.Author.Differences.{product_is}
use Rattle.css_num.specs.Division.{floor_div, ceil_div}
use Rattle.css_num.specs.Spans.{Interval, ProductsFit, image_of, scaled_number}
use Rattle.css_num.proofs.Rounding.{floor_div-within, floor_div-mono, floor_div-le-ceil_div}
use Rattle.css_clock.proofs.Goes.{times_nonneg-mono}

-- the quotient of a small number is small
pub quotient-near : (z : ℤ) (d : ℕ) → 0 < d → unsigned_abs z < 2 ^ 126 → unsigned_abs (floor_div z d) ≤ 2 ^ 126
quotient-near z d p h =
    floor_div-within z (2 ^ 126) d p (let more : 2 ^ 126 * 1 ≤ 2 ^ 126 * d = mul-le-mul_left (2 ^ 126) p in omega arith)

-- the lesser of two small numbers is small
min-near : (x y : ℤ) (k : ℕ) → unsigned_abs x ≤ k → unsigned_abs y ≤ k → unsigned_abs (int_min x y) ≤ k
min-near x y k p q = elim (int_lt y x) as (λ b. unsigned_abs (cond b y x) ≤ k) [ true ↦ q | false ↦ p ]

-- and so is the greater
max-near : (x y : ℤ) (k : ℕ) → unsigned_abs x ≤ k → unsigned_abs y ≤ k → unsigned_abs (int_max x y) ≤ k
max-near x y k p q = elim (int_lt y x) as (λ b. unsigned_abs (cond b x y) ≤ k) [ true ↦ p | false ↦ q ]

-- the ends of an image of small products are small
pub image-near : (span image : Interval) (num den : ℤ) → pos 0 <ℤ den → ProductsFit span num
    → image ≡ image_of span num (unsigned_abs den)
    → (unsigned_abs image.lo ≤ 2 ^ 126) × (unsigned_abs image.hi ≤ 2 ^ 126)
image-near span image num den p fits e =
    let positive : 0 < unsigned_abs den = omega (arith, ints) in
    let first = quotient-near (span.lo *ℤ num) (unsigned_abs den) positive fits.low in
    let last = quotient-near (span.hi *ℤ num) (unsigned_abs den) positive fits.high in
    let low =
    min-near (scaled_number span.lo num (unsigned_abs den)) (scaled_number span.hi num (unsigned_abs den)) (2 ^ 126)
    first last in
    let high =
    max-near (scaled_number span.lo num (unsigned_abs den)) (scaled_number span.hi num (unsigned_abs den)) (2 ^ 126)
    first last in
    rw e (low, high)

-- what a function answers that divides a small product
pub answer-near : (product divisor quotient : ℤ) → pos 0 <ℤ divisor → unsigned_abs product < 2 ^ 126
    → quotient ≡ floor_div product (unsigned_abs divisor) → unsigned_abs quotient ≤ 2 ^ 126
answer-near product divisor quotient p h e =
    let positive : 0 < unsigned_abs divisor = omega (arith, ints) in
    rw e (quotient-near product (unsigned_abs divisor) positive h)

-- the quotient of a small number, rounded up, is small
pub ceiling-near : (z : ℤ) (d : ℕ) → 0 < d → unsigned_abs z < 2 ^ 126 → unsigned_abs (ceil_div z d) ≤ 2 ^ 126
ceiling-near z d p h =
    let turned : unsigned_abs (neg_ℤ z) < 2 ^ 126 = omega (arith, ints) in
    let floor = quotient-near (neg_ℤ z) d p turned in
    omega (arith, ints, floor)

-- what a function answers that rounds a small product's quotient up
pub answer-near_up : (product divisor quotient : ℤ) → pos 0 <ℤ divisor → unsigned_abs product < 2 ^ 126
    → quotient ≡ ceil_div product (unsigned_abs divisor) → unsigned_abs quotient ≤ 2 ^ 126
answer-near_up product divisor quotient p h e =
    let positive : 0 < unsigned_abs divisor = omega (arith, ints) in
    rw e (ceiling-near product (unsigned_abs divisor) positive h)

-- ticks of an i64, times a divisor, are small
pub product-near : (x y : ℤ) → unsigned_abs x ≤ 2 ^ 64 → unsigned_abs y ≤ 1000000000000000000
    → unsigned_abs (x *ℤ y) < 2 ^ 126
product-near x y p q =
    let bound : unsigned_abs x * unsigned_abs y ≤ 2 ^ 64 * 1000000000000000000 = mul-le-mul p q in
    omega (arith, bound, unsigned_abs-mul x y)

-- rounded down isn't above rounded up
pub outward-ordered : (low high first last : ℤ) (d : ℕ) (ticks : ℤ) → 0 < d → low ≤ℤ high
    → first ≡ ticks +ℤ floor_div low d → last ≡ ticks +ℤ ceil_div high d → first ≤ℤ last
outward-ordered low high first last d ticks p h e f =
    let down = floor_div-mono low high d p h in
    let up = floor_div-le-ceil_div high d p in
    omega (arith, ints, down, up, e, f)

-- numbers since a tick, times a divisor, keep their order
pub scaled-ordered : (low high ticks divisor first last : ℤ) → pos 0 <ℤ divisor → low ≤ℤ high
    → first ≡ (low -ℤ ticks) *ℤ divisor → last ≡ (high -ℤ ticks) *ℤ divisor → first ≤ℤ last
scaled-ordered low high ticks divisor first last p h e f =
    let products =
    times_nonneg-mono (low -ℤ ticks) (high -ℤ ticks) divisor (omega (arith, ints)) (omega (arith, ints)) in
    omega (arith, ints, products, e, f)

-- the product of two numbers above zero is above zero
pub product-positive : (x y : ℤ) → pos 0 <ℤ x → pos 0 <ℤ y → pos 0 <ℤ (x *ℤ y)
product-positive (pos a) (pos b) p q =
    let product : 0 < a * b = mul-pos (omega (arith, ints)) (omega (arith, ints)) in
    omega (arith, ints, product, product_is (pos a) (pos b))
product-positive (pos a) (negsuc b) p q = absurd (omega (arith, ints))
product-positive (negsuc a) y p q = absurd (omega (arith, ints))

-- a number that isn't 0 has a magnitude above 0
pub moving-positive : (z : ℤ) → z ≢ pos 0 → 0 < unsigned_abs z
moving-positive (pos zero) h = absurd (h refl)
moving-positive (pos (suc n)) h = omega arith
moving-positive (negsuc n) h = omega arith
