-- What is stored, the oldest first, of a list with the newest first.
use Rattle.std.proofs.Common.{◌≡◌, ◌≢◌, ℕ, suc, zero, arith, List, [], ◌∷◌, ◌++◌, length, refl, ap, sym, subst, ◌∙◌}
use Rattle.std.proofs.Common.{inl, inr, length-append, length-set, option_map, Option, Some, None, slice_get, slice_set}
use Rattle.css_world.specs.Standing.{AreStored}
use Rattle.css_world.proofs.Names.{eqb_tells, numbered, stored, spent}

-- ---- options
-- two functions that are equal map alike
option_map-alike : {A B : Type 0} (f g : A → B) (o : Option A) → ((x : A) → f x ≡ g x) → option_map f o ≡ option_map g o
option_map-alike f g None h = refl
option_map-alike f g (Some x) h = ap Some (h x)

-- to map twice, where the second function is constant
option_map-constant : {A B C : Type 0} (f : A → B) (g : A → C) (y : C) (o : Option A) → ((x : A) → g x ≡ y)
    → option_map (λ _. y) (option_map f o) ≡ option_map g o
option_map-constant f g y None h = refl
option_map-constant f g y (Some x) h = ap Some (sym (h x))

-- ---- lists
-- what was put at the end is there
pub slice_get-pushed : {A : Type 0} (items : List A) (item : A) → slice_get (items ++ item ∷ []) (length items)
    ≡ Some item
slice_get-pushed [] item = refl
slice_get-pushed (x ∷ items) item = slice_get-pushed items item

-- and no other item is another one now
pub slice_get-before : {A : Type 0} (items : List A) (item : A) (place : ℕ) → place ≢ length items
    → slice_get (items ++ item ∷ []) place ≡ slice_get items place
slice_get-before [] item zero h = absurd (h refl)
slice_get-before [] item (suc place) h = refl
slice_get-before (x ∷ items) item zero h = refl
slice_get-before (x ∷ items) item (suc place) h = slice_get-before items item place (λ e. h (ap suc e))

-- what was written is there, if there was something
slice_get-set_same : {A : Type 0} (items : List A) (item : A) (place : ℕ)
    → slice_get (slice_set items place item) place ≡ option_map (λ _. item) (slice_get items place)
slice_get-set_same [] item place = refl
slice_get-set_same (x ∷ items) item zero = refl
slice_get-set_same (x ∷ items) item (suc place) = slice_get-set_same items item place

-- and each other item is as before
pub slice_get-set_other : {A : Type 0} (items : List A) (item : A) (place other : ℕ) → place ≢ other
    → slice_get (slice_set items place item) other ≡ slice_get items other
slice_get-set_other [] item place other h = refl
slice_get-set_other (x ∷ items) item zero zero h = absurd (h refl)
slice_get-set_other (x ∷ items) item zero (suc other) h = refl
slice_get-set_other (x ∷ items) item (suc place) zero h = refl
slice_get-set_other (x ∷ items) item (suc place) (suc other) h =
    slice_get-set_other items item place other (λ e. h (ap suc e))

-- ---- numbers
-- no item has the number 0
numbered-zero : {A : Type 0} (items : List A) → numbered 0 items ≡ None
numbered-zero [] = refl
numbered-zero (x ∷ older) = elim (eqb_tells 0 (suc (length older))) [
  | inl same ↦ absurd (omega (arith, same.1))
  | inr other ↦ rw other.0 (numbered-zero older)
]

-- ---- stored
-- One item more is stored, in the form in which it is seen.
pub pushed : {A B : Type 0} (see : ℕ → A → B) (items : List B) (newest_first : List A) (item : A) (seen : B)
    → AreStored see items newest_first → seen ≡ see (suc (length newest_first)) item
    → AreStored see (items ++ seen ∷ []) (item ∷ newest_first)
pushed {A = A} {B = B} see items newest_first item seen are is = record { count = count_after; each = each_after }
  where
    count_after : length (items ++ seen ∷ []) ≡ suc (length newest_first)
    count_after = omega (arith, length-append items (seen ∷ []), are.count)

    each_after : (number : ℕ)
        → stored (items ++ seen ∷ []) number ≡ option_map (see number) (numbered number (item ∷ newest_first))
    each_after zero = sym (ap (option_map (see 0)) (numbered-zero (item ∷ newest_first)))
    each_after (suc place) = elim (eqb_tells (suc place) (suc (length newest_first))) [
      | inl same ↦
          let last : length items ≡ place = omega (arith, same.1, are.count) in
          let there : slice_get (items ++ seen ∷ []) place ≡ Some seen = rw last at (slice_get-pushed items seen) in
          let as_seen : seen ≡ see (suc place) item = rw same.1 is in
          rw same.0 (there ∙ ap Some as_seen)
      | inr other ↦
          let before : place ≢ length items = λ e. other.1 (ap suc (e ∙ are.count)) in
          rw other.0 (slice_get-before items seen place before ∙ are.each (suc place))
    ]

-- The item of a number is taken out, and is seen as none from then on.
pub spent_stored : {A B : Type 0} (see after : ℕ → A → Option B) (items : List (Option B))
    (newest_first : List A) (number : ℕ) → ((item : A) → after number item ≡ None)
    → ((other : ℕ) (item : A) → number ≢ other → after other item ≡ see other item)
    → AreStored see items newest_first → AreStored after (spent items number) newest_first
spent_stored {A = A} {B = B} see after items newest_first number gone rest are = record {
  count = count_after number ∙ are.count;
  each = each_after;
}
  where
    count_after : (n : ℕ) → length (spent items n) ≡ length items
    count_after zero = refl
    count_after (suc place) = length-set items place None

    same_after : (n : ℕ) → stored (spent items n) n ≡ option_map (λ _. None) (stored items n)
    same_after zero = refl
    same_after (suc place) = slice_get-set_same items None place

    other_after : (n other : ℕ) → n ≢ other → stored (spent items n) other ≡ stored items other
    other_after zero other h = refl
    other_after (suc place) zero h = refl
    other_after (suc place) (suc other) h = slice_get-set_other items None place other (λ e. h (ap suc e))

    at_number : stored (spent items number) number ≡ option_map (after number) (numbered number newest_first)
    at_number =
        same_after number ∙ ap (option_map (λ _. None)) (are.each number)
        ∙ option_map-constant (see number) (after number) None (numbered number newest_first) gone

    each_after : (other : ℕ)
        → stored (spent items number) other ≡ option_map (after other) (numbered other newest_first)
    each_after other = elim (eqb_tells number other) [
      | inl same ↦ subst
          (λ (n : ℕ). stored (spent items number) n ≡ option_map (after n) (numbered n newest_first)) same.1 at_number
      | inr differs ↦
          other_after number other differs.1 ∙ are.each other
          ∙ option_map-alike (see other) (after other) (numbered other newest_first)
          (λ item. sym (rest other item differs.1))
    ]
