-- What a clock shows goes on with true time, and keeps the oscillator's error.
use Rattle.std.proofs.Common.{◌≡◌, ℕ, ◌+◌, ◌-◌, ◌*◌, ◌/◌, ◌^◌, ◌<◌, ◌≤◌, arith, Bool, true, false}
use Rattle.css_gen.specs.Course.{clock}

-- the quotients of two multiples of true time
fast-keeps : (t t' q q' : ℕ) → t ≤ t' → 256000000 * q ≤ 12800 * t → 12800 * t < 256000000 * q + 256000000
    → 256000000 * q' ≤ 12800 * t' → 12800 * t' < 256000000 * q' + 256000000
    → let v = 1000000000 + t + q in let v' = 1000000000 + t' + q' in
    (256000000 * (v' + t) ≤ 256000000 * (v + t') + (12800 * (t' - t) + 256000000))
    × (256000000 * (v + t') ≤ 256000000 * (v' + t) + (12800 * (t' - t) + 256000000))
fast-keeps t t' q q' later low high low' high' = (omega arith, omega arith)

slow-keeps : (t t' q q' : ℕ) → t ≤ t' → 256000000 * q ≤ 12800 * t + 255999999 → 12800 * t ≤ 256000000 * q
    → 256000000 * q' ≤ 12800 * t' + 255999999 → 12800 * t' ≤ 256000000 * q'
    → let v = 1000000000 + t - q in let v' = 1000000000 + t' - q' in
    (256000000 * (v' + t) ≤ 256000000 * (v + t') + (12800 * (t' - t) + 256000000))
    × (256000000 * (v + t') ≤ 256000000 * (v' + t) + (12800 * (t' - t) + 256000000))
slow-keeps t t' q q' later low high low' high' = (omega arith, omega arith)

-- a quotient, rounded down
floor-is : (t : ℕ) → let q = 12800 * t / 256000000 in
    (256000000 * q ≤ 12800 * t) × (12800 * t < 256000000 * q + 256000000)
floor-is t = (omega arith, omega arith)

-- and rounded up
ceiling-is : (t : ℕ) → let q = (12800 * t + 255999999) / 256000000 in
    (256000000 * q ≤ 12800 * t + 255999999) × (12800 * t ≤ 256000000 * q)
ceiling-is t = (omega arith, omega arith)

-- from one true time to a later one the clock keeps its error
pub clock-keeps : (fast : Bool) (t t' : ℕ) → t ≤ t' → let v = clock fast t in let v' = clock fast t' in
    (256000000 * (v' + t) ≤ 256000000 * (v + t') + (12800 * (t' - t) + 256000000))
    × (256000000 * (v + t') ≤ 256000000 * (v' + t) + (12800 * (t' - t) + 256000000))
unfolding clock
clock-keeps true t t' later =
    let at = floor-is t in
    let at' = floor-is t' in
    fast-keeps t t' (12800 * t / 256000000) (12800 * t' / 256000000) later at.0 at.1 at'.0 at'.1
clock-keeps false t t' later =
    let at = ceiling-is t in
    let at' = ceiling-is t' in
    slow-keeps t t' ((12800 * t + 255999999) / 256000000) ((12800 * t' + 255999999) / 256000000) later at.0 at.1
    at'.0 at'.1

-- it doesn't fall
pub clock-rises : (fast : Bool) (t t' : ℕ) → t ≤ t' → clock fast t ≤ clock fast t'
unfolding clock
clock-rises true t t' later = omega (arith, floor-is t, floor-is t')
clock-rises false t t' later = omega (arith, ceiling-is t, ceiling-is t')

-- and it rises from one line to the next
pub clock-goes_on : (fast : Bool) (t t' : ℕ) → t + 30000 ≤ t' → clock fast t < clock fast t'
unfolding clock
clock-goes_on true t t' later = omega (arith, floor-is t, floor-is t')
clock-goes_on false t t' later = omega (arith, ceiling-is t, ceiling-is t')

-- at the true times of a schedule it shows what a reading can be
pub clock-range : (fast : Bool) (t : ℕ) → t < 2 ^ 43 → clock fast t < 4294967296000000000
unfolding clock
clock-range true t small = omega (arith, floor-is t)
clock-range false t small = omega arith

-- at true time 0 it shows one second
pub clock-start : (fast : Bool) → clock fast 0 ≡ 1000000000
unfolding clock
clock-start true = omega arith
clock-start false = omega arith
