-- Laws of the least of items.
use Rattle.std.proofs.Common.{◌≡◌, subst, refl, Bool, true, false, List, [], ◌∷◌}
use Rattle.std.specs.Prelude.{ℤ, int_lt, Option, Some, None, All}
use Rattle.std.proofs.lemmas.List.Elements.{All-head, All-tail}
use Rattle.css_model.specs.WallClock.{lesser, least_by}

-- what holds of two items holds of the lesser
lesser-of_both : {A : Type 0} (P : A → Type 0) (f : A → ℤ) (x a : A) (o : Option A) → P x → ((y : A) → o ≡ Some y → P y)
    → lesser f x o ≡ Some a → P a
lesser-of_both P f x a None here older e = let same : x ≡ a = cc in subst P same here
lesser-of_both {A} P f x a (Some y) here older e = by (int_lt (f x) (f y)) refl
  where
    by : (t : Bool) → int_lt (f x) (f y) ≡ t → P a
    by true g = let chosen = rw g at e in let same : x ≡ a = cc chosen in subst P same here
    by false g = let chosen = rw g at e in let same : y ≡ a = cc chosen in subst P same (older y refl)

-- what holds of each holds of the least
pub least_by-of_all : {A : Type 0} (P : A → Type 0) (f : A → ℤ) (xs : List A) (a : A) → All P xs
    → least_by f xs ≡ Some a → P a
least_by-of_all P f [] a h e = cc
least_by-of_all P f (x ∷ xs) a h e =
    lesser-of_both P f x a (least_by f xs) (All-head P x xs h) (λ y. least_by-of_all P f xs y (All-tail P x xs h)) e

lesser-some : {A : Type 0} (f : A → ℤ) (x : A) (o : Option A) → lesser f x o ≡ None → ⊥
lesser-some f x None e = cc
lesser-some f x (Some y) e = by (int_lt (f x) (f y)) refl
  where
    by : (t : Bool) → int_lt (f x) (f y) ≡ t → ⊥
    by true g = let chosen = rw g at e in cc chosen
    by false g = let chosen = rw g at e in cc chosen

-- there is a least of any items
pub least_by-none : {A : Type 0} (f : A → ℤ) (xs : List A) → least_by f xs ≡ None → xs ≡ []
least_by-none f [] e = refl
least_by-none f (x ∷ xs) e = absurd (lesser-some f x (least_by f xs) e)
