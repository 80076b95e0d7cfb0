-- The span of a clock, by the span of its parent.
use Rattle.std.proofs.Common.{◌≡◌, ◌↔◌, ◌∙◌, ap, refl, arith, true, false}
use Rattle.std.specs.Prelude.{ℤ, pos, unsigned_abs, ◌+ℤ◌, int_lt, cond}
use Rattle.std.specs.Int.{int_min, int_max}
use Rattle.std.proofs.lemmas.Int.{ints, clamps}
use Rattle.css_num.specs.Rates.{TickRate}
use Rattle.css_num.specs.Division.{floor_div}
use Rattle.css_num.specs.Spans.{Interval, ProductsFit, image_of}
use Rattle.css_clock.specs.Ticks.{Correlation, factor_of, divisor_of, product_of, child_value, IsSmall, HoldsOn}
use Rattle.css_clock.specs.Ticks.{HoldsOver, since_of, shifted_by, span_of}

-- what holds of the lesser and the greater of two numbers holds of both
both : (P : ℤ → Type 0) (x y : ℤ) → P (int_min x y) → P (int_max x y) → P x × P y
both P x y =
    elim (int_lt y x) as (λ b. P (cond b y x) → P (cond b x y) → P x × P y) [
      | true ↦ λ p q. (q, p)
      | false ↦
          λ p q. (p, q)
    ]

-- what holds of both holds of the lesser
lesser : (P : ℤ → Type 0) (x y : ℤ) → P x → P y → P (int_min x y)
lesser P x y p q = elim (int_lt y x) as (λ b. P (cond b y x)) [ true ↦ q | false ↦ p ]

-- and of the greater
greater : (P : ℤ → Type 0) (x y : ℤ) → P x → P y → P (int_max x y)
greater P x y p q = elim (int_lt y x) as (λ b. P (cond b x y)) [ true ↦ p | false ↦ q ]

-- of one number it is itself
pub min_same : (x : ℤ) → int_min x x ≡ x
min_same x = elim (int_lt x x) as (λ b. cond b x x ≡ x) [ true ↦ refl | false ↦ refl ]

-- the order of the two doesn't matter
min_swap : (x y : ℤ) → int_min x y ≡ int_min y x
min_swap x y = omega (arith, ints, clamps)

max_swap : (x y : ℤ) → int_max x y ≡ int_max y x
max_swap x y = omega (arith, ints, clamps)

-- both move alike
plus_min : (z x y : ℤ) → (z +ℤ int_min x y) ≡ int_min (z +ℤ x) (z +ℤ y)
plus_min z x y = omega (arith, ints, clamps)

plus_max : (z x y : ℤ) → (z +ℤ int_max x y) ≡ int_max (z +ℤ x) (z +ℤ y)
plus_max z x y = omega (arith, ints, clamps)

-- the readings at the lesser and the greater are those at both
min_of : (f : ℤ → ℤ) (x y : ℤ) → int_min (f (int_min x y)) (f (int_max x y)) ≡ int_min (f x) (f y)
min_of f x y =
    elim (int_lt y x) as (λ b. int_min (f (cond b y x)) (f (cond b x y)) ≡ int_min (f x) (f y)) [
      | true ↦
          min_swap (f y) (f x)
      | false ↦ refl
    ]

max_of : (f : ℤ → ℤ) (x y : ℤ) → int_max (f (int_min x y)) (f (int_max x y)) ≡ int_max (f x) (f y)
max_of f x y =
    elim (int_lt y x) as (λ b. int_max (f (cond b y x)) (f (cond b x y)) ≡ int_max (f x) (f y)) [
      | true ↦
          max_swap (f y) (f x)
      | false ↦ refl
    ]

-- the ends of an interval make it
interval : (a b c d : ℤ) → a ≡ c → b ≡ d
    → (let x : Interval = record { lo = a; hi = b } in x) ≡ record { lo = c; hi = d }
interval a b c d p q = cc

-- the image of the parent's span is the clock's span
pub span_of-child : (rate parent_rate : TickRate) (correlation : Correlation) (value : ℤ → ℤ) (root : Interval)
    → shifted_by
    (image_of (since_of (span_of value root) correlation.parent_ticks) (factor_of rate parent_rate correlation.speed)
    (divisor_of rate parent_rate)) correlation.child_ticks
    ≡ span_of (λ number. child_value rate parent_rate correlation (value number)) root
span_of-child rate parent_rate correlation value root =
    let quotient = λ (z : ℤ). floor_div (product_of rate parent_rate correlation z) (divisor_of rate parent_rate) in
    let x = value root.lo in
    let y = value root.hi in
    interval _ _ _ _
    (ap (λ (z : ℤ). correlation.child_ticks +ℤ z) (min_of quotient x y) ∙ plus_min correlation.child_ticks (quotient x)
    (quotient y))
    (ap (λ (z : ℤ). correlation.child_ticks +ℤ z) (max_of quotient x y) ∙ plus_max correlation.child_ticks (quotient x)
    (quotient y))

-- a clock's root values hold where those of its parent do, and the products fit
pub holds-fits : (Parent : ℤ → Type 0) (rate parent_rate : TickRate) (correlation : Correlation) (value : ℤ
    → ℤ) (root : Interval) → HoldsOver Parent root
    → ProductsFit (since_of (span_of value root) correlation.parent_ticks)
    (factor_of rate parent_rate correlation.speed)
    ↔ HoldsOver (λ number. HoldsOn (Parent number) (product_of rate parent_rate correlation (value number))) root
holds-fits Parent rate parent_rate correlation value root holds =
    let small = λ (z : ℤ). IsSmall (product_of rate parent_rate correlation z) in
    let x = value root.lo in
    let y = value root.hi in (
      λ fits. let ends = both small x y fits.low fits.high in
          record {
            low = record { parent = holds.low; small = ends.0 };
            high =
                record { parent = holds.high; small = ends.1 };
          },
      λ on. record {
        low = lesser small x y on.low.small on.high.small;
        high =
            greater small x y on.low.small on.high.small;
      },
    )

-- what a function gives that takes the steps one by one
pub span_of-steps : (rate parent_rate given_rate : TickRate) (correlation : Correlation) (value : ℤ
    → ℤ) (root parent since : Interval) (factor divisor : ℤ) (span : Interval)
    → given_rate ≡ parent_rate → parent ≡ span_of value root → since ≡ since_of parent correlation.parent_ticks
    → factor ≡ factor_of rate given_rate correlation.speed → divisor ≡ pos (divisor_of rate given_rate)
    → span ≡ shifted_by (image_of since factor (unsigned_abs divisor)) correlation.child_ticks
    → span ≡ span_of (λ number. child_value rate parent_rate correlation (value number)) root
span_of-steps rate parent_rate given_rate correlation value root parent since factor divisor span r p s f d e =
    e ∙ ap (λ (of : Interval). shifted_by (image_of of factor (unsigned_abs divisor)) correlation.child_ticks)
    (s ∙ ap (λ (of : Interval). since_of of correlation.parent_ticks) p)
    ∙ ap (λ (by : ℤ).
    shifted_by (image_of (since_of (span_of value root) correlation.parent_ticks) by (unsigned_abs divisor))
    correlation.child_ticks) (f ∙ ap (λ (of : TickRate). factor_of rate of correlation.speed) r)
    ∙ ap (λ (by : ℤ).
    shifted_by
    (image_of (since_of (span_of value root) correlation.parent_ticks) (factor_of rate parent_rate correlation.speed)
    (unsigned_abs by)) correlation.child_ticks) (d ∙ ap (λ (of : TickRate). pos (divisor_of rate of)) r)
    ∙ span_of-child rate parent_rate correlation value root

-- the same of whether the products fit
pub holds-steps : (Parent : ℤ → Type 0) (rate parent_rate given_rate : TickRate) (correlation : Correlation) (value : ℤ
    → ℤ) (root parent since : Interval) (factor : ℤ)
    → HoldsOver Parent root → given_rate ≡ parent_rate → parent ≡ span_of value root
    → since ≡ since_of parent correlation.parent_ticks
    → factor ≡ factor_of rate given_rate correlation.speed
    → ProductsFit since factor
    ↔ HoldsOver (λ number. HoldsOn (Parent number) (product_of rate parent_rate correlation (value number))) root
holds-steps Parent rate parent_rate given_rate correlation value root parent since factor holds r p s f =
    let spans : since ≡ since_of (span_of value root) correlation.parent_ticks =
    s ∙ ap (λ (of : Interval). since_of of correlation.parent_ticks) p in
    let factors : factor ≡ factor_of rate parent_rate correlation.speed =
    f ∙ ap (λ (of : TickRate). factor_of rate of correlation.speed) r in
    rw (spans, factors) (holds-fits Parent rate parent_rate correlation value root holds)
