-- The position that is shown on a timeline, and the one that its control timestamp assigns: of two quotients rounded
-- down, the sum is that of the sum, or one less.
use Rattle.std.proofs.Common.{◌≡◌, ◌≢◌, ℕ, ◌+◌, ◌*◌, ◌<◌, ◌⊎◌, inl, inr, arith, ap, sym, ◌∙◌}
use Rattle.std.specs.Prelude.{ℤ, pos, ◌+ℤ◌, ◌-ℤ◌, ◌*ℤ◌, ◌≤ℤ◌, ◌<ℤ◌}
use borrow.Author.Differences.{up, down, product_is, same_in}
use Rattle.css_num.specs.Division.{floor_div}
use Rattle.css_num.proofs.Rounding.{le-floor_div_iff, floor_div_times-le, lt-floor_div_next_times, lt_of_times-lt}
use Rattle.css_player.specs.Segments.{media_at, tick_of, position_at}
use Rattle.css_meaning.proofs.Names.{eqb_tells, ints, Segment, Track, position}

-- a whole number that isn't below another one, and not above the next one, is one of the two
one_of_two : (k f : ℤ) → f ≤ℤ k → k ≤ℤ (f +ℤ pos 1) → (k ≡ f) ⊎ (k ≡ f +ℤ pos 1)
one_of_two k f low high = elim (eqb_tells (up k + down f) (up f + down k)) [
  | inl same ↦ inl (same_in k f same.1)
  | inr other ↦
      let differs : (up k + down f) ≢ (up f + down k) = other.1 in
      inr (same_in k (f +ℤ pos 1) (omega (arith, ints)))
]

-- the quotient of a sum, rounded down, is the sum of the quotients or one more
pub floor_div-sum : (x y : ℤ) (d : ℕ) → 0 < d → (floor_div (x +ℤ y) d ≡ floor_div x d +ℤ floor_div y d)
    ⊎ (floor_div (x +ℤ y) d ≡ (floor_div x d +ℤ floor_div y d) +ℤ pos 1)
floor_div-sum x y d p =
    let f = floor_div x d in
    let g = floor_div y d in
    let k = floor_div (x +ℤ y) d in
    let low : (f +ℤ g) ≤ℤ k =
    (le-floor_div_iff (x +ℤ y) (f +ℤ g) d p).1
    (omega (
      arith,
      ints,
      product_is f (pos d),
      product_is g (pos d),
      product_is (f +ℤ g) (pos d),
      sum_times f g d,
      floor_div_times-le x d p,
      floor_div_times-le y d p,
    )) in
    let below : (k *ℤ pos d) <ℤ (((f +ℤ g) +ℤ pos 2) *ℤ pos d) =
    omega (
      arith,
      ints,
      sum_times (f +ℤ pos 1) (g +ℤ pos 1) d,
      two f g d,
      floor_div_times-le (x +ℤ y) d p,
      lt-floor_div_next_times x d p,
      lt-floor_div_next_times y d p,
    ) in
    let high = lt_of_times-lt k ((f +ℤ g) +ℤ pos 2) d below in
    one_of_two k (f +ℤ g) low (omega (arith, ints))
  where
    -- a sum times a factor
    sum_times : (a b : ℤ) (d : ℕ) → ((a +ℤ b) *ℤ pos d) ≡ (a *ℤ pos d) +ℤ (b *ℤ pos d)
    sum_times a b d =
        let sum : up (a +ℤ b) + (down a + down b) ≡ down (a +ℤ b) + (up a + up b) = omega (arith, ints) in
        same_in ((a +ℤ b) *ℤ pos d) ((a *ℤ pos d) +ℤ (b *ℤ pos d))
        (omega (
          arith,
          ints,
          product_is (a +ℤ b) (pos d),
          product_is a (pos d),
          product_is b (pos d),
          ap (λ n. n * d) sum,
        ))

    two : (f g : ℤ) (d : ℕ) → (((f +ℤ pos 1) +ℤ (g +ℤ pos 1)) *ℤ pos d) ≡ (((f +ℤ g) +ℤ pos 2) *ℤ pos d)
    two f g d = ap (λ z. z *ℤ pos d) (same_in ((f +ℤ pos 1) +ℤ (g +ℤ pos 1)) ((f +ℤ g) +ℤ pos 2) (omega (arith, ints)))

-- the media position that is shown, times a factor, in two parts
in_parts : (media distance speed : ℤ) (u : ℕ)
    → ((media +ℤ (distance *ℤ speed)) *ℤ pos u) ≡ (media *ℤ pos u) +ℤ (distance *ℤ (pos u *ℤ speed))
in_parts media distance speed u =
    let moved = distance *ℤ speed in
    let fast = pos u *ℤ speed in
    let all = media +ℤ moved in
    let sum : up all + (down media + down moved) ≡ down all + (up media + up moved) = omega (arith, ints) in
    same_in (all *ℤ pos u) ((media *ℤ pos u) +ℤ (distance *ℤ fast))
    (omega (
      arith,
      ints,
      product_is all (pos u),
      product_is media (pos u),
      product_is distance fast,
      ap (λ n. n * u) sum,
      ap (λ n. n * u) (product_is distance speed).0,
      ap (λ n. n * u) (product_is distance speed).1,
      ap (λ n. up distance * n) (product_is (pos u) speed).0,
      ap (λ n. up distance * n) (product_is (pos u) speed).1,
      ap (λ n. down distance * n) (product_is (pos u) speed).0,
      ap (λ n. down distance * n) (product_is (pos u) speed).1,
    ))

-- the position that is shown is the one that is assigned, or one more
pub shown_nearly : (track : Track) (segment : Segment) (at wall : ℕ) → 0 < track.rate.units_per_tick
    → segment.at ≡ pos at → let tick = position (tick_of track segment.media) at segment.speed track.rate (pos wall) in
    (position_at track segment (pos wall) ≡ tick) ⊎ (position_at track segment (pos wall) ≡ tick +ℤ pos 1)
shown_nearly track segment at wall positive is =
    let d : ℕ = track.rate.units_per_tick * 1000000000 in
    let u : ℕ = track.rate.units_per_second in
    let x : ℤ = segment.media *ℤ pos u in
    let y : ℤ = (pos wall -ℤ pos at) *ℤ (pos u *ℤ segment.speed) in
    let parts : (media_at segment (pos wall) *ℤ pos u) ≡ x +ℤ y =
    ap (λ (z : ℤ). (segment.media +ℤ (pos wall -ℤ z) *ℤ segment.speed) *ℤ pos u) is
    ∙ in_parts segment.media (pos wall -ℤ pos at) segment.speed u in
    let shown : position_at track segment (pos wall) ≡ track.base +ℤ floor_div (x +ℤ y) d =
    ap (λ (z : ℤ). track.base +ℤ floor_div z d) parts in
    let b = track.base in
    elim (floor_div-sum x y d (omega (arith, positive))) [
      | inl same ↦ inl (shown ∙ ap (λ (z : ℤ). b +ℤ z) same ∙ sym (regrouped b (floor_div x d) (floor_div y d)))
      | inr next ↦ inr (shown ∙ ap (λ (z : ℤ). b +ℤ z) next ∙ more b (floor_div x d) (floor_div y d))
    ]
  where
    regrouped : (a b c : ℤ) → ((a +ℤ b) +ℤ c) ≡ a +ℤ (b +ℤ c)
    regrouped a b c = same_in ((a +ℤ b) +ℤ c) (a +ℤ (b +ℤ c)) (omega (arith, ints))

    more : (a b c : ℤ) → (a +ℤ ((b +ℤ c) +ℤ pos 1)) ≡ ((a +ℤ b) +ℤ c) +ℤ pos 1
    more a b c = same_in (a +ℤ ((b +ℤ c) +ℤ pos 1)) (((a +ℤ b) +ℤ c) +ℤ pos 1) (omega (arith, ints))
