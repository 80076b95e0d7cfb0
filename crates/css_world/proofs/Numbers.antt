-- Items by number, the oldest first: what is written is there, and each other item is as before.
use Rattle.std.proofs.Common.{◌≡◌, ◌≢◌, ℕ, zero, suc, ◌-◌, ◌<◌, ◌≤◌, arith, List, [], ◌∷◌, ◌++◌, length, refl, ap, sym}
use Rattle.std.proofs.Common.{◌∙◌, ◌⊎◌, inl, inr, option_map, Option, Some, None, map, slice_get, slice_set, subst}
use Rattle.css_world.proofs.Names.{eqb_tells, length-map, slice_get-map, slice_get_within, stored, mapped_some}
use Rattle.css_world.proofs.Storing.{slice_get-set_other, slice_get-before, slice_get-pushed}

-- ---- what is there
-- an item has a number from 1 to the count
pub stored_within : {A : Type 0} (items : List A) (who : ℕ) (item : A) → stored items who ≡ Some item
    → (1 ≤ who) × (who ≤ length items)
stored_within items zero item is = absurd (cc)
stored_within items (suc place) item is =
    let within = slice_get_within items place item is in
    (omega arith, omega (arith, within))

-- each of these numbers has an item
there : {A : Type 0} (items : List A) (place : ℕ) → place < length items → (item : A)
    × (slice_get items place ≡ Some item)
there [] place below = absurd (omega arith)
there (x ∷ items) zero below = (x, refl)
there (x ∷ items) (suc place) below = there items place (omega arith)

pub stored_there : {A : Type 0} (items : List A) (who : ℕ) → 1 ≤ who → who ≤ length items
    → (item : A) × (stored items who ≡ Some item)
stored_there items zero first within = absurd (omega arith)
stored_there items (suc place) first within = there items place (omega arith)

-- two items of one number are the same
pub stored_same : {A : Type 0} (items : List A) (who : ℕ) (x y : A) → stored items who ≡ Some x
    → stored items who ≡ Some y → x ≡ y
stored_same items who x y is too =
    let same : Some x ≡ Some y = sym is ∙ too in cc

-- where one of two lists that are as long has no item, the other one has none
none_at : {A B : Type 0} (items : List A) (others : List B) (place : ℕ) → length items ≡ length others
    → slice_get items place ≡ None → slice_get others place ≡ None
none_at items [] place same is = refl
none_at [] (y ∷ ys) place same is = absurd (omega (arith, same))
none_at (x ∷ xs) (y ∷ ys) zero same is = absurd (cc)
none_at (x ∷ xs) (y ∷ ys) (suc place) same is = none_at xs ys place (omega (arith, same)) is

pub stored_none : {A B : Type 0} (items : List A) (others : List B) (number : ℕ) → length items ≡ length others
    → stored items number ≡ None → stored others number ≡ None
stored_none items others zero same is = refl
stored_none items others (suc place) same is = none_at items others place same is

-- what is mapped to nothing is nothing
pub mapped_none : {A B : Type 0} (f : A → B) (o : Option A) → option_map f o ≡ None → o ≡ None
mapped_none f None is = refl
mapped_none f (Some x) is = absurd (cc)

-- ---- one more
-- what was put at the end has the next number, and each other item is as before
pub stored_pushed : {A : Type 0} (items : List A) (new : A) (who : ℕ) (item : A)
    → stored (items ++ new ∷ []) who ≡ Some item → ((who ≡ suc (length items)) × (item ≡ new))
    ⊎ (stored items who ≡ Some item)
stored_pushed items new zero item is = absurd (cc)
stored_pushed items new (suc place) item is = elim (eqb_tells place (length items)) [
  | inl same ↦
      let at_end : slice_get (items ++ new ∷ []) place ≡ Some new = rw same.1 (slice_get-pushed items new) in
      let equal : Some item ≡ Some new = sym is ∙ at_end in
      inl (ap suc same.1, cc)
  | inr other ↦ inr (sym (slice_get-before items new place other.1) ∙ is)
]

-- ---- one other
-- what was written is there
written : {A : Type 0} (items : List A) (place : ℕ) (item : A) → place < length items
    → slice_get (slice_set items place item) place ≡ Some item
written [] place item below = absurd (omega arith)
written (x ∷ items) zero item below = refl
written (x ∷ items) (suc place) item below = written items place item (omega arith)

pub set_there : {A : Type 0} (items : List A) (who : ℕ) (item : A) → 1 ≤ who → who ≤ length items
    → stored (slice_set items (who - 1) item) who ≡ Some item
set_there items zero item first within = absurd (omega arith)
set_there items (suc place) item first within =
    let same : suc place - 1 ≡ place = omega arith in
    rw same (written items place item (omega arith))

-- each other item is as before
pub set_others : {A : Type 0} (items : List A) (who other : ℕ) (item : A) → 1 ≤ who → other ≢ who
    → stored (slice_set items (who - 1) item) other ≡ stored items other
set_others items zero other item first differs = absurd (omega arith)
set_others items (suc place) zero item first differs = refl
set_others items (suc place) (suc other) item first differs =
    let same : suc place - 1 ≡ place = omega arith in
    rw same (slice_get-set_other items item place other (λ e. differs (ap suc (sym e))))

-- what holds of each other item, and of what is written there, holds of each
pub each_written : {A : Type 0} (P : ℕ → A → Type 0) (items : List A) (who : ℕ) (item : A) → 1 ≤ who
    → who ≤ length items → ((other : ℕ) (x : A) → other ≢ who → stored items other ≡ Some x → P other x) → P who item
    → (other : ℕ) (x : A) → stored (slice_set items (who - 1) item) other ≡ Some x → P other x
each_written P items who item first within each new other x is = elim (eqb_tells other who) [
  | inl same ↦
      let here : stored (slice_set items (who - 1) item) other ≡ Some item =
      rw same.1 (set_there items who item first within) in
      let equal : item ≡ x = stored_same (slice_set items (who - 1) item) other item x here is in
      subst (P other) equal (rw same.1 new)
  | inr differs ↦ each other x differs.1 (sym (set_others items who other item first differs.1) ∙ is)
]

-- so it does where it held of each item before
pub each_set : {A : Type 0} (P : ℕ → A → Type 0) (items : List A) (who : ℕ) (item : A) → 1 ≤ who → who ≤ length items
    → ((other : ℕ) (x : A) → stored items other ≡ Some x → P other x) → P who item
    → (other : ℕ) (x : A) → stored (slice_set items (who - 1) item) other ≡ Some x → P other x
each_set P items who item first within each new =
    each_written P items who item first within (λ other x differs found. each other x found) new

-- ---- a part of each item
-- a part that is as before in what is written is as before in each item
part_set : {A B : Type 0} (part : A → B) (items : List A) (place : ℕ) (item old : A) → slice_get items place ≡ Some old
    → part item ≡ part old → map part (slice_set items place item) ≡ map part items
part_set part [] place item old is same = refl
part_set part (x ∷ items) zero item old is same =
    let e : x ≡ old = cc in ap (λ y. y ∷ map part items) (same ∙ ap part (sym e))
part_set part (x ∷ items) (suc place) item old is same =
    ap (λ ys. part x ∷ ys) (part_set part items place item old is same)

pub set_part : {A B : Type 0} (part : A → B) (items : List A) (who : ℕ) (item old : A) → stored items who ≡ Some old
    → part item ≡ part old → map part (slice_set items (who - 1) item) ≡ map part items
set_part part items zero item old is same = absurd (cc)
set_part part items (suc place) item old is same =
    let e : suc place - 1 ≡ place = omega arith in
    rw e (part_set part items place item old is same)

-- the part of the item of a number
stored-map : {A B : Type 0} (part : A → B) (items : List A) (who : ℕ)
    → stored (map part items) who ≡ option_map part (stored items who)
stored-map part items zero = refl
stored-map part items (suc place) = slice_get-map part items place

-- where a part is as before in all items, it is so in each
pub part_kept : {A B : Type 0} (part : A → B) (old new : List A) (who : ℕ) (after : A) → map part new ≡ map part old
    → stored new who ≡ Some after → (before : A) × (stored old who ≡ Some before) × (part before ≡ part after)
part_kept part old new who after same is =
    mapped_some part (stored old who) (part after)
    (sym (stored-map part old who) ∙ ap (λ parts. stored parts who) (sym same) ∙ stored-map part new who
    ∙ ap (option_map part) is)

-- as many items have as many parts
pub count_kept : {A B : Type 0} (part : A → B) (old new : List A) → map part new ≡ map part old
    → length new ≡ length old
count_kept part old new same = sym (length-map new part) ∙ ap length same ∙ length-map old part
