-- When the spans of answers become too wide, and that a span of a small scaled width is narrow.
use Rattle.std.proofs.Common.{◌≡◌, ℕ, ◌+◌, ◌-◌, ◌*◌, ◌<◌, ◌≤◌, arith, sym, ap, subst, ◌∙◌, List, [], ◌∷◌}
use Rattle.std.proofs.Common.{length, get_or, take}
use Rattle.std.specs.Prelude.{ℤ, pos, ◌+ℤ◌, ◌-ℤ◌, ◌*ℤ◌, ◌≤ℤ◌, ◌<ℤ◌, ◌↔◌, All, Option, Some, None, MatchOption, reverse}
use Rattle.std.specs.Int.{int_max}
use Rattle.std.specs.Option.{option_map}
use Rattle.std.proofs.lemmas.Int.{ints, clamps, by_lt_z}
use Rattle.std.proofs.lemmas.List.Elements.{All-nil, All-cons, All-append, All-weaker, All-more}
use Rattle.std.proofs.Math.Nat.{mul-lt-mul_of_pos_right, lt_of_mul-lt-mul_right}
use borrow.Author.Differences.{up, down, product_is}
use Rattle.css_num.specs.Division.{floor_div, ceil_div}
use Rattle.css_num.proofs.Rounding.{IsFloor-floor_div, IsCeiling-ceil_div}
use Rattle.css_model.specs.declared.TheConstants.{F, LIMIT}
use Rattle.css_model.specs.WallClock.{Answer, Local, IsAnswer, IsLocal, lower, upper, lo, hi, scaled_width}
use Rattle.css_model.specs.WallClock.{IsLeast, narrowest, HaveSameNarrowest}
use Rattle.css_model.proofs.Narrowest.{narrowest_is_least}
use Rattle.css_model.proofs.Widths.{scaled_width-add}
use Rattle.css_span.specs.Frontiers.{Frontier}
use Rattle.css_span.specs.WallSpans.{wall_span, span_of}
use Rattle.css_num.specs.Spans.{Interval}
use Rattle.css_model.specs.History.{History, accepted_answers}
use Rattle.css_companion.specs.Standing.{Companion, StandsFor, own_of}
use Rattle.css_companion_c.specs.Until.{BoundsTheWall, IsNarrow, IsWide, IsWideFrom, limit_of}
use Rattle.css_companion_c.proofs.Shown.{before_last, last, all_reversed, all_turned}

-- rounding both ends outward adds less than 2
rounded : (l u w : ℤ) (f g : ℕ) → 0 < f → 0 < g
    → (u *ℤ pos f -ℤ l *ℤ pos g) ≤ℤ ((w -ℤ pos 1) *ℤ pos (f * g)) → (ceil_div u g -ℤ floor_div l f) ≤ℤ w
rounded l u w f g pf pg h =
    let c = ceil_div u g -ℤ pos 1 in
    let q = floor_div l f +ℤ pos 1 in
    let m = w -ℤ pos 1 in
    let above : up c * g + down u < up u + down c * g =
    omega (arith, ints, (IsCeiling-ceil_div u g pg).least, product_is c (pos g)) in
    let below : up l + down q * f < up q * f + down l =
    omega (arith, ints, (IsFloor-floor_div l f pf).greatest, product_is q (pos f)) in
    let above_f : (up c * g + down u) * f < (up u + down c * g) * f = mul-lt-mul_of_pos_right above pf in
    let below_g : (up l + down q * f) * g < (up q * f + down l) * g = mul-lt-mul_of_pos_right below pg in
    let products : (up c + down q + down m) * (f * g) < (down c + up q + up m) * (f * g) =
    omega (arith, ints, h, product_is u (pos f), product_is l (pos g), product_is m (pos (f * g)), above_f, below_g) in
    let numbers : up c + down q + down m < down c + up q + up m = lt_of_mul-lt-mul_right (f * g) products in
    omega (arith, ints, numbers)

-- the span of an answer
pub narrow_span : (own : Local) (a : Answer) (reading width : ℕ) → IsLocal own
    → scaled_width own a reading ≤ℤ limit_of width own → (hi own a reading -ℤ lo own a reading) ≤ℤ pos width
unfolding lo hi scaled_width
narrow_span own a reading width ranges h =
    rounded (lower own a reading) (upper own a reading) (pos width) (F + own.error) (F - own.error)
    (omega arith) (omega (arith, ranges.error)) h

-- ---- when the span of an answer is too wide
pub wide_iff : (own : Local) (a : Answer) (reading growth : ℕ) (limit left from : ℤ) → IsLocal own → IsAnswer a
    → growth ≡ 2 * F * (a.error + own.error) → left ≡ (limit -ℤ scaled_width own a 0) +ℤ pos 1
    → (from ≤ℤ pos reading) ↔ (left ≤ℤ (pos reading *ℤ pos growth))
    → (from ≤ℤ pos reading) ↔ (limit <ℤ scaled_width own a reading)
wide_iff own a reading growth limit left from local ranges grows is iff =
    let grown : scaled_width own a reading
    ≡ scaled_width own a 0 +ℤ pos (2 * F * (a.error + own.error) * reading) =
    subst (λ (n : ℕ). scaled_width own a n ≡ scaled_width own a 0 +ℤ pos (2 * F * (a.error + own.error) * reading))
    (omega arith) (scaled_width-add own a 0 reading local ranges.error) in
    let product = ap (λ n. reading * n) grows in (
      λ h. let q = iff.0 h in omega (arith, ints, grown, product, is, q),
      λ h. iff.1 (omega (arith, ints, grown, product, is, h)),
    )

-- and those of more answers
pub wide-more : (own : Local) (width floor : ℕ) (answers : List Answer) (i : ℕ) (d : Answer) (old next from : ℤ)
    → i < length answers → IsWideFrom own width floor (take i answers) old
    → ((reading : ℕ) → reading < LIMIT → (next ≤ℤ pos reading) ↔ IsWide own width reading (get_or answers i d))
    → from ≡ int_max old next → IsWideFrom own width floor (take (i + 1) answers) from
wide-more own width floor answers i d old next from inside so_far newest is = record {
  later = omega (arith, ints, clamps, so_far.later);
  wide = λ reading above below.
      let earlier = so_far.wide reading above below in
      let last_one = newest reading below in (
        λ h. All-more (IsWide own width reading) answers i d inside (earlier.0 (omega (arith, ints, clamps, h)))
            (last_one.0 (omega (arith, ints, clamps, h))),
        λ each. let q = earlier.1 (before_last (IsWide own width reading) answers i each) in
            let r = last_one.1 (last (IsWide own width reading) answers i d inside each) in
            omega (arith, ints, clamps, q, r),
      );
}

-- of the kept answers
pub wide-kept : (companion : Companion) (width : ℕ) (own : Local) (floor : ℕ) (answers : List Answer) (from : ℤ)
    → own ≡ own_of companion → floor ≡ companion.client.floor → answers ≡ reverse companion.client.estimate.kept
    → IsWideFrom own width floor answers from
    → IsWideFrom (own_of companion) width companion.client.floor companion.client.estimate.kept from
wide-kept companion width own floor answers from is same turned wide =
    let by_own = subst (λ (l : Local). IsWideFrom l width floor answers from) is wide in
    let by_floor = subst (λ (n : ℕ). IsWideFrom (own_of companion) width n answers from) same by_own in
    let by = subst (λ (l : List Answer). IsWideFrom (own_of companion) width companion.client.floor l from) turned
    by_floor in
    let P = IsWide (own_of companion) width in
    record {
      later = by.later;
      wide = λ reading above below.
          let iff = by.wide reading above below in (
            λ h. all_turned (P reading) companion.client.estimate.kept (iff.0 h),
            λ each. iff.1 (all_reversed (P reading) companion.client.estimate.kept each),
          );
    }

-- where not all of them are too wide, the narrowest isn't, so the wall clock's span is narrow
pub narrow_wall : (own : Local) (width reading : ℕ) (kept accepted : List Answer) → IsLocal own
    → HaveSameNarrowest own kept accepted → ¬ All (IsWide own width reading) kept
    → IsNarrow width (wall_span own reading accepted)
narrow_wall own width reading kept accepted ranges same not_wide =
    subst (λ (o : Option Answer). IsNarrow width (option_map (span_of own reading) o)) (same reading)
    (by (narrowest own reading kept) (narrowest_is_least own reading kept))
  where
    all_wide : (a : Answer) → IsLeast (λ x. scaled_width own x reading) kept a → IsWide own width reading a
        → All (IsWide own width reading) kept
    all_wide a least wide =
        rw least.is_among (All-append (IsWide own width reading) least.newer (a ∷ least.older)
        (All-weaker (λ x. scaled_width own a reading ≤ℤ scaled_width own x reading) (IsWide own width reading)
        (λ x h. omega (arith, ints, h, wide)) least.newer least.newer_no_less)
        (All-cons (IsWide own width reading) a least.older wide
        (All-weaker (λ x. scaled_width own a reading <ℤ scaled_width own x reading) (IsWide own width reading)
        (λ x h. omega (arith, ints, h, wide)) least.older least.older_greater)))

    by : (o : Option Answer)
        → MatchOption o (kept ≡ []) (IsLeast (λ x. scaled_width own x reading) kept)
        → IsNarrow width (option_map (span_of own reading) o)
    by None none = absurd (not_wide (rw none (All-nil (IsWide own width reading))))
    by (Some a) least =
        narrow_span own a reading width ranges
        (by_lt_z {P = scaled_width own a reading ≤ℤ limit_of width own} (limit_of width own)
        (scaled_width own a reading) (λ wide. absurd (not_wide (all_wide a least wide))) (λ more. more))

-- the span is that of the kept answers
kept_span : (companion : Companion) (history : History) (reading : ℕ) → StandsFor companion history
    → wall_span (own_of companion) reading companion.client.estimate.kept
    ≡ wall_span (own_of companion) reading (accepted_answers (own_of companion) history)
kept_span companion history reading known =
    ap (λ (o : Option Answer). option_map (span_of (own_of companion) reading) o)
    (known.client.estimate.narrowest reading)

-- so up to such a reading the span that is told is narrow
pub bounds_the_wall : BoundsTheWall
bounds_the_wall width last reading span old new before after narrow floor within alike was is told =
    let P : Option Interval → Type 0 = λ o. IsNarrow width o in
    subst P (sym (kept_span old before reading was)
    ∙ ap (λ (e : Frontier). wall_span e.local reading e.kept) (sym alike.0)
    ∙ kept_span new after reading is ∙ told after is) (narrow.narrow reading floor within before was)
