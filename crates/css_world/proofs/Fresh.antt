-- What is made for each companion of a schedule, one after the other.
use Rattle.std.proofs.Common.{◌≡◌, ◌<◌, ◌+◌, ℕ, suc, arith, refl, ap, sym, subst, ◌∙◌, inl, inr, List, [], ◌∷◌, ◌++◌}
use Rattle.std.proofs.Common.{length, length-append, get_or, Some, slice_get}
use Rattle.css_world.proofs.Names.{slice_get_read, CompanionLine, stored}
use Rattle.css_world.proofs.Numbers.{stored_within, stored_pushed}

-- each item is one of its companion
abbrev pub Each : {A : Type 0} → (CompanionLine → A → Type 0) → List CompanionLine → List A → Type 0
Each {A} Is companions items = (who : ℕ) (declared : CompanionLine) (item : A) → stored companions who ≡ Some declared
    → stored items who ≡ Some item → Is declared item

pub none_made : {A : Type 0} (Is : CompanionLine → A → Type 0) (companions : List CompanionLine) → Each Is companions []
none_made {A} Is companions who declared item at found =
    let within = stored_within {A = A} [] who item found in absurd (omega (arith, within.0, within.1))

-- one item more
pub one_made : {A : Type 0} (Is : CompanionLine → A → Type 0) (companions : List CompanionLine) (items : List A)
    (place : ℕ) (declared : CompanionLine) (item : A) → length items ≡ place → place < length companions
    → declared ≡ get_or companions place declared → Is declared item → Each Is companions items
    → Each Is companions (items ++ item ∷ [])
one_made {A} Is companions items place declared item count below is made each who d x at found =
    elim (stored_pushed items item who x found) [
      | inl new ↦
          let here : stored companions (suc (length items)) ≡ Some declared =
          ap (λ n. slice_get companions n) count
          ∙ slice_get_read companions (length companions) place declared refl below is in
          let there : stored companions (suc (length items)) ≡ Some d =
          subst (λ n. stored companions n ≡ Some d) new.0 at in
          let same : Some declared ≡ Some d = sym here ∙ there in
          let equal : declared ≡ d = cc in
          subst (λ (l : A). Is d l) (sym new.1) (subst (λ (c : CompanionLine). Is c item) equal made)
      | inr before ↦ each who d x at before
    ]

pub counts_more : {A : Type 0} (items : List A) (item : A) (place : ℕ) → length items ≡ place
    → length (items ++ item ∷ []) ≡ place + 1
counts_more items item place count = omega (arith, length-append items (item ∷ []), count)
