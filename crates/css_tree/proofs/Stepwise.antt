-- What a clock reads by its parent, step by step.
use Rattle.std.proofs.Common.{◌≡◌, ℕ, ◌∙◌, sym, ap, refl, Bool, true, false, List}
use Rattle.std.specs.Prelude.{ℤ, pos, ◌+ℤ◌, ◌-ℤ◌, ◌*ℤ◌, unsigned_abs, Some, None, Result, Ok, Err, if◌then◌else◌, ◌&&◌}
use Rattle.css_num.specs.Division.{floor_div}
use Rattle.css_clock.specs.Ticks.{factor_of, divisor_of}
use Rattle.css_tree.specs.declared.fault.ClockFault.{ClockFault}
use Rattle.css_tree.specs.declared.fault.ClockFault.TheVariants.{Beyond}
use Rattle.css_tree.specs.declared.node.Gear.{Gear}
use Rattle.css_tree.specs.Trees.{Clocks, IsForest, is_small, is_tick, gear_product, gear_value, gear_of, checked_value}
use Rattle.css_tree.specs.Trees.{checked_step, checked_down, then_with, parent_of, lineage}
use Rattle.css_num.specs.Spans.{Interval}
use Rattle.css_tree.specs.Conversions.{magnitude_of, scaled_span, turned, outward_by, outward}
use Rattle.css_tree.proofs.Forests.{lineage-up}

-- what is there only under a test isn't there where the test fails
not_there : (test : Bool) (z : ℤ) → None ≡ (if test then Some z else None) → test ≡ false
not_there true z h = cc
not_there false z h = refl

-- and is there where it holds
there : (test : Bool) (z found : ℤ) → Some found ≡ (if test then Some z else None) → (test ≡ true) × (found ≡ z)
there true z found h = (refl, cc)
there false z found h = cc

-- the product of the code's steps
product : (gear : Gear) (value since factor : ℤ) → since ≡ value -ℤ gear.link.parent_ticks
    → factor ≡ factor_of gear.rate gear.parent_rate gear.link.speed → (since *ℤ factor) ≡ gear_product gear value
product gear value since factor s f =
    ap (λ (z : ℤ). z *ℤ factor) s ∙ ap (λ (z : ℤ). (value -ℤ gear.link.parent_ticks) *ℤ z) f

-- a product that isn't small is beyond the clock
pub beyond-product : (id : ℕ) (gear : Gear) (value since factor : ℤ) → since ≡ value -ℤ gear.link.parent_ticks
    → factor ≡ factor_of gear.rate gear.parent_rate gear.link.speed
    → None ≡ (if is_small (since *ℤ factor) then Some (since *ℤ factor) else None)
    → Err (Beyond id) ≡ checked_value id gear value
beyond-product id gear value since factor s f h =
    let large : is_small (gear_product gear value) ≡ false =
    ap is_small (sym (product gear value since factor s f)) ∙ not_there (is_small (since *ℤ factor)) (since *ℤ factor)
    h in
    sym (ap (λ (b : Bool). let answer : Result ℤ ClockFault =
    if b && is_tick (gear_value gear value) then Ok (gear_value gear value) else Err (Beyond id) in answer) large)

-- a product that is there is small
pub small-product : (since factor found : ℤ)
    → Some found ≡ (if is_small (since *ℤ factor) then Some (since *ℤ factor) else None) → is_small found ≡ true
small-product since factor found h =
    let parts = there (is_small (since *ℤ factor)) (since *ℤ factor) found h in
    ap is_small parts.1 ∙ parts.0

-- what the steps of the code give
pub record Steps (gear : Gear) (value since factor found divisor quotient ticks : ℤ) : Type 0 where
  pub since_is : since ≡ value -ℤ gear.link.parent_ticks
  pub factor_is : factor ≡ factor_of gear.rate gear.parent_rate gear.link.speed
  pub found_is : Some found ≡ (if is_small (since *ℤ factor) then Some (since *ℤ factor) else None)
  pub divisor_is : divisor ≡ pos (divisor_of gear.rate gear.parent_rate)
  pub quotient_is : quotient ≡ floor_div found (unsigned_abs divisor)
  pub ticks_is : ticks ≡ gear.link.child_ticks +ℤ quotient

-- the product is small
small : (gear : Gear) (value since factor found divisor quotient ticks : ℤ)
    → Steps gear value since factor found divisor quotient ticks → is_small (gear_product gear value) ≡ true
small gear value since factor found divisor quotient ticks steps =
    let parts = there (is_small (since *ℤ factor)) (since *ℤ factor) found steps.found_is in
    ap is_small (sym (product gear value since factor steps.since_is steps.factor_is)) ∙ parts.0

-- and the ticks are what the clock reads
reads : (gear : Gear) (value since factor found divisor quotient ticks : ℤ)
    → Steps gear value since factor found divisor quotient ticks → ticks ≡ gear_value gear value
reads gear value since factor found divisor quotient ticks steps =
    let parts = there (is_small (since *ℤ factor)) (since *ℤ factor) found steps.found_is in
    steps.ticks_is
    ∙ ap (λ (z : ℤ). gear.link.child_ticks +ℤ z)
    (steps.quotient_is
    ∙ ap (λ (z : ℤ). floor_div z (unsigned_abs divisor))
    (parts.1 ∙ product gear value since factor steps.since_is steps.factor_is)
    ∙ ap (λ (z : ℤ). floor_div (gear_product gear value) (unsigned_abs z)) steps.divisor_is)

-- by the two tests, what the clock reads or the fault
both_tests : (id : ℕ) (gear : Gear) (value : ℤ) (b c : Bool) → is_small (gear_product gear value) ≡ b
    → is_tick (gear_value gear value) ≡ c
    → checked_value id gear value ≡ (if b && c then Ok (gear_value gear value) else Err (Beyond id))
both_tests id gear value b c p q = rw (p, q) refl

-- ticks that don't fit are beyond the clock
pub beyond-ticks : (id : ℕ) (gear : Gear) (value since factor found divisor quotient ticks : ℤ)
    → Steps gear value since factor found divisor quotient ticks
    → None ≡ (if is_tick ticks then Some ticks else None) → Err (Beyond id) ≡ checked_value id gear value
beyond-ticks id gear value since factor found divisor quotient ticks steps h =
    let wide : is_tick (gear_value gear value) ≡ false =
    ap is_tick (sym (reads gear value since factor found divisor quotient ticks steps)) ∙ not_there (is_tick ticks)
    ticks h in
    sym (both_tests id gear value true false (small gear value since factor found divisor quotient ticks steps) wide)

-- ticks that fit are what the clock reads
pub read-ticks : (id : ℕ) (gear : Gear) (value since factor found divisor quotient ticks told : ℤ)
    → Steps gear value since factor found divisor quotient ticks
    → Some told ≡ (if is_tick ticks then Some ticks else None) → Ok told ≡ checked_value id gear value
read-ticks id gear value since factor found divisor quotient ticks told steps h =
    let parts = there (is_tick ticks) ticks told h in
    let read = reads gear value since factor found divisor quotient ticks steps in
    let fits : is_tick (gear_value gear value) ≡ true = ap is_tick (sym read) ∙ parts.0 in
    let answer : Result ℤ ClockFault = Ok told in
    let same : answer ≡ Ok (gear_value gear value) = ap Ok (parts.1 ∙ read) in
    same ∙ sym
    (both_tests id gear value true true (small gear value since factor found divisor quotient ticks steps) fits)

-- the readings of the clocks above a clock are those of its parent's
pub checked_down-up : (clocks : Clocks) (id p : ℕ) (root : ℤ) → IsForest clocks → parent_of clocks id ≡ Some p
    → checked_down clocks (lineage clocks id) root ≡ then_with (checked_down clocks (lineage clocks p) root)
    (checked_step id (gear_of clocks id))
checked_down-up clocks id p root forest e =
    ap (λ (path : List ℕ). checked_down clocks path root) (lineage-up clocks id p forest e)

-- the steps of the code give the outward span
pub outward-steps : (gear : Gear) (span scaled of answer : Interval) (divisor magnitude : ℤ)
    → divisor ≡ pos (divisor_of gear.rate gear.parent_rate)
    → magnitude ≡ pos (magnitude_of gear.rate gear.parent_rate gear.link.speed)
    → scaled ≡ scaled_span span gear.link.child_ticks divisor → of ≡ turned gear.link.speed scaled
    → answer ≡ outward_by of (unsigned_abs magnitude) gear.link.parent_ticks → answer ≡ outward gear span
outward-steps gear span scaled of answer divisor magnitude d m s t e = rw (e, t, s, d, m) refl
