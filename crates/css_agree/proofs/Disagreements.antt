-- Answers disagree exactly where two of them contradict each other, and then they aren't all true.
use Rattle.std.proofs.Common.{◌≡◌, ℕ, arith, refl, sym, Bool, true, false, [], ◌∷◌}
use Rattle.std.specs.Prelude.{ℤ, ◌<ℤ◌, ◌≤ℤ◌, int_lt}
use Rattle.std.proofs.lemmas.Int.{ints}
use Rattle.std.proofs.lemmas.List.Elements.{All-contains, All-nil}
use Rattle.css_num.specs.Spans.{Interval}
use Rattle.css_model.specs.WallClock.{Answer, Local}
use Rattle.css_span.specs.Frontiers.{Answers}
use Rattle.css_agree.specs.Agreements.{AgreesAt, Contradict, IsShared, IsTruthful}
use Rattle.css_agree.specs.declared.agreed.Agreed.{Agreed}
use Rattle.css_agree.specs.declared.agreed.Agreed.TheVariants.{Nothing, Within, Disagree}
use Rattle.css_agree.specs.Printed.{greatest_low, least_high}
use Rattle.css_agree.specs.Disagreements.{disagree, DisagreementIsContradiction, DisagreementIsFalse}
use Rattle.css_agree.proofs.Shown.{lowest, highest, same_low, same_high}
use Rattle.css_agree.proofs.Truth.{contradiction_is_false}

-- what is less tests as less
pub less : (a b : ℤ) → a <ℤ b → int_lt a b ≡ true
less a b h = by (int_lt a b) refl
  where
    by : (t : Bool) → int_lt a b ≡ t → int_lt a b ≡ true
    by true e = e
    by false e = absurd (omega (arith, ints, e, h))

-- and what isn't doesn't
pub not_less : (a b : ℤ) → b ≤ℤ a → int_lt a b ≡ false
not_less a b h = by (int_lt a b) refl
  where
    by : (t : Bool) → int_lt a b ≡ t → int_lt a b ≡ false
    by true e = absurd (omega (arith, ints, e, h))
    by false e = e

-- of answers that disagree two contradict each other
pub contradicting : (own : Local) (reading : ℕ) (added : Answers) → disagree own reading added ≡ true
    → (low : Answer) × (high : Answer) × Contradict own reading added low high
contradicting own reading [] e = absurd (cc)
contradicting own reading (first ∷ others) e =
    let low = lowest own reading first others in
    let high = highest own reading first others in (
      low.answer,
      high.answer,
      record {
        greatest_low = low.greatest;
        least_high = high.least;
        apart = omega (arith, ints, e, low.same, high.same);
      },
    )

-- where two of them contradict each other, they disagree
contradicted : (own : Local) (reading : ℕ) (added : Answers) (low high : Answer)
    → Contradict own reading added low high → disagree own reading added ≡ true
contradicted own reading [] a b h =
    absurd (All-contains (λ a. ⊥) [] a (All-nil (λ a. ⊥)) h.greatest_low.is_among)
contradicted own reading (first ∷ others) a b h =
    let low = lowest own reading first others in
    let high = highest own reading first others in
    less (least_high own reading first others) (greatest_low own reading first others)
    (omega (
      arith,
      ints,
      low.same,
      high.same,
      same_low own reading (first ∷ others) low.answer a low.greatest h.greatest_low,
      same_high own reading (first ∷ others) high.answer b high.least h.least_high,
      h.apart,
    ))

-- where they share a span, they don't
agreeing : (own : Local) (reading : ℕ) (added : Answers) (span : Interval) → IsShared own reading added span
    → disagree own reading added ≡ false
agreeing own reading [] span h = refl
agreeing own reading (first ∷ others) span h =
    let low = lowest own reading first others in
    let high = highest own reading first others in
    not_less (least_high own reading first others) (greatest_low own reading first others)
    (omega (
      arith,
      ints,
      low.same,
      high.same,
      same_low own reading (first ∷ others) low.answer h.low low.greatest h.greatest_low,
      same_high own reading (first ∷ others) high.answer h.high high.least h.least_high,
      h.lower_end,
      h.upper_end,
      h.ordered,
    ))

-- what is said of answers tells whether they disagree
abbrev pub is_disagreement : Agreed → Bool
is_disagreement Nothing = false
is_disagreement (Within span) = false
is_disagreement (Disagree low high) = true

pub told : (own : Local) (reading : ℕ) (added : Answers) (agreed : Agreed) → AgreesAt own reading added agreed
    → is_disagreement agreed ≡ disagree own reading added
told own reading [] Nothing h = refl
told own reading (first ∷ others) Nothing h = absurd (cc)
told own reading added (Within span) h = sym (agreeing own reading added span h)
told own reading added (Disagree low high) h = sym (contradicted own reading added low high h)

pub disagreement_is_contradiction : DisagreementIsContradiction
disagreement_is_contradiction own reading added =
    (contradicting own reading added, λ found. contradicted own reading added found.0 found.1 found.2)

pub disagreement_is_false : DisagreementIsFalse
disagreement_is_false own reading added most apart errors world who sleeps i for reads told =
    let P = IsTruthful errors world who own sleeps i in
    let found = contradicting own reading added apart in
    contradiction_is_false own reading added found.0 found.1 most found.2 errors world who sleeps i for reads
    (All-contains P added found.0 told found.2.greatest_low.is_among)
    (All-contains P added found.1 told found.2.least_high.is_among)
