-- The last requests, as a ring has them and as a history has them.
use Rattle.std.proofs.Common.{◌≡◌, ℕ, zero, suc, ◌-◌, ◌/◌, ◌%◌, ◌<◌, ◌≤◌, arith, ap, sym, ◌∙◌, Bool}
use Rattle.std.proofs.Common.{true, false, ◌&&◌, ◌||◌, List, [], ◌∷◌, ◌++◌, length, take, drop, refl}
use Rattle.std.specs.Prelude.{reverse, map, nat_lt, ◌==◌, slice_get, Option, Some, None}
use Rattle.std.specs.List.{list_any, last_or}
use Rattle.std.proofs.lemmas.Bool.{and_parts, eqb-true, eq-eqb, ltb-true, ltb-false, false≢true}
use Rattle.std.proofs.lemmas.List.{reverse-append, length-reverse, take-append-drop, length-drop, take-append-le}
use Rattle.std.proofs.lemmas.List.Sorted.{list_any-IsPermutation, IsPermutation-reverse}
use Rattle.std.proofs.lemmas.List.Folds.{list_any-append}
use Rattle.circular_buffer.specs.Buffer.{keep_last, last_item}
use Rattle.css_model.specs.declared.Stamp.{Stamp}
use Rattle.css_model.specs.Wire.{stamp_of, reading_of, second, is_same_stamp}

-- the first n are those of the first n
pub take-take : {A : Type 0} (n : ℕ) (xs : List A) → take n (take n xs) ≡ take n xs
take-take zero [] = refl
take-take zero (x ∷ xs) = refl
take-take (suc n) [] = refl
take-take (suc n) (x ∷ xs) = ap (λ ys. x ∷ ys) (take-take n xs)

-- the first n of the first n and one more
take-fewer : {A : Type 0} (n : ℕ) (xs : List A) → take n (take (suc n) xs) ≡ take n xs
take-fewer zero [] = refl
take-fewer zero (x ∷ xs) = refl
take-fewer (suc n) [] = refl
take-fewer (suc n) (x ∷ xs) = ap (λ ys. x ∷ ys) (take-fewer n xs)

-- one more, and of these the first n, whether or not the others were n alone
pub take-cons_take : {A : Type 0} (n : ℕ) (x : A) (xs : List A) → take n (x ∷ take n xs) ≡ take n (x ∷ xs)
take-cons_take zero x xs = refl
take-cons_take (suc n) x xs = ap (λ ys. x ∷ ys) (take-fewer n xs)

-- the images of the first n
pub take-map : {A B : Type 0} (f : A → B) (n : ℕ) (xs : List A) → take n (map f xs) ≡ map f (take n xs)
take-map f zero [] = refl
take-map f zero (x ∷ xs) = refl
take-map f (suc n) [] = refl
take-map f (suc n) (x ∷ xs) = ap (λ ys. f x ∷ ys) (take-map f n xs)

-- of a list with at most n items they are all
take_all : {A : Type 0} (n : ℕ) (xs : List A) → length xs ≤ n → take n xs ≡ xs
take_all zero [] h = refl
take_all zero (x ∷ xs) h = absurd (omega arith)
take_all (suc n) [] h = refl
take_all (suc n) (x ∷ xs) h = ap (λ ys. x ∷ ys) (take_all n xs (omega arith))

-- what is dropped from the front is missing at the end of the reverse
reverse-drop : (xs : List ℕ) (n : ℕ) → reverse (drop (length xs - n) xs) ≡ take n (reverse xs)
reverse-drop xs n = by (nat_lt (length xs) n) refl
  where
    by : (t : Bool) → nat_lt (length xs) n ≡ t → reverse (drop (length xs - n) xs) ≡ take n (reverse xs)
    by true e =
        let few : length xs < n = ltb-true (length xs) n e in
        let none : length xs - n ≡ 0 = omega arith in
        rw none (sym (take_all n (reverse xs) (omega (arith, length-reverse xs))))
    by false e =
        let many : n ≤ length xs = ltb-false (length xs) n e in
        let k = length xs - n in
        let long : length (reverse (drop k xs)) ≡ n = omega (arith, length-reverse (drop k xs), length-drop k xs) in
        let split : reverse xs ≡ reverse (drop k xs) ++ reverse (take k xs) =
        ap reverse (sym (take-append-drop k xs)) ∙ reverse-append (take k xs) (drop k xs) in
        sym (ap (λ (ys : List ℕ). take n ys) split
        ∙ take-append-le n (reverse (drop k xs)) (reverse (take k xs)) (omega arith)
        ∙ take_all n (reverse (drop k xs)) (omega arith))

-- what a ring of n keeps after a push, the newest first
pub newest_of_ring : (n x : ℕ) (xs : List ℕ) → reverse (keep_last n (xs ++ x ∷ [])) ≡ take n (x ∷ reverse xs)
newest_of_ring n x xs = reverse-drop (xs ++ x ∷ []) n ∙ ap (λ (ys : List ℕ). take n ys) (reverse-append xs (x ∷ []))

-- the last of a list that ends with it
last_or-end : (o : Option ℕ) (xs : List ℕ) (x : ℕ) → last_or o (xs ++ x ∷ []) ≡ Some x
last_or-end o [] x = refl
last_or-end o (y ∷ ys) x = last_or-end (Some y) ys x

-- the oldest of a ring stands at its front
pub oldest_of_ring : (xs : List ℕ) → last_or None (reverse xs) ≡ slice_get xs 0
oldest_of_ring [] = refl
oldest_of_ring (x ∷ xs) =
    ap (λ (ys : List ℕ). last_or None ys) (reverse-append (x ∷ []) xs) ∙ last_or-end None (reverse xs) x

-- the first of two lists, where the first has one
first_of_both : (xs ys : List ℕ) → 0 < length xs → slice_get (xs ++ ys) 0 ≡ slice_get xs 0
first_of_both [] ys some = absurd (omega arith)
first_of_both (x ∷ xs) ys some = refl

-- the newest of a ring stands at its back
pub newest_at_back : (xs : List ℕ) → slice_get (reverse xs) 0 ≡ last_item xs
newest_at_back [] = refl
newest_at_back (x ∷ []) = refl
newest_at_back (x ∷ y ∷ xs) =
    let here : suc (length xs) - 1 ≡ length xs = omega arith in
    let there : suc (suc (length xs)) - 1 ≡ suc (length xs) = omega arith in
    ap (λ (ys : List ℕ). slice_get ys 0) (reverse-append (x ∷ []) (y ∷ xs))
    ∙ first_of_both (reverse (y ∷ xs)) (x ∷ []) (omega (arith, length-reverse (y ∷ xs))) ∙ newest_at_back (y ∷ xs)
    ∙ ap (slice_get (y ∷ xs)) here ∙ sym (ap (slice_get (x ∷ y ∷ xs)) there)

-- ---- whether a request is among them
-- the newest is
pub newest_is_among : (r : ℕ) (asked : List ℕ) → slice_get asked 0 ≡ Some r → list_any (λ a. a == r) asked ≡ true
newest_is_among r [] e = cc
newest_is_among r (x ∷ xs) e = let same : x ≡ r = cc in rw (eq-eqb x r same) refl

-- a test finds the same in a list from behind
pub list_any-reverse : {A : Type 0} (p : A → Bool) (xs : List A) → list_any p (reverse xs) ≡ list_any p xs
list_any-reverse p xs = sym (list_any-IsPermutation p xs (reverse xs) (IsPermutation-reverse xs))

-- a test of the images
pub list_any-map : {A B : Type 0} (p : B → Bool) (f : A → B) (xs : List A)
    → list_any p (map f xs) ≡ list_any (λ x. p (f x)) xs
list_any-map p f [] = refl
list_any-map p f (x ∷ xs) = ap (λ t. p (f x) || t) (list_any-map p f xs)

-- two tests that are true together
same_test : (a b : Bool) → (a ≡ true → b ≡ true) → (b ≡ true → a ≡ true) → a ≡ b
same_test true true f g = refl
same_test true false f g = absurd (false≢true (f refl))
same_test false true f g = absurd (false≢true (g refl))
same_test false false f g = refl

-- both tests
both : (a b : Bool) → a ≡ true → b ≡ true → (a && b) ≡ true
both true true p q = refl
both true false p q = absurd (false≢true q)
both false b p q = absurd (false≢true p)

-- an originate value with nanoseconds below a second is that of a request where its reading is the request's
pub same_originate : (originate : Stamp) (r : ℕ) → originate.nanoseconds < second
    → is_same_stamp (stamp_of r) originate ≡ (r == reading_of originate)
same_originate o r h =
    same_test (is_same_stamp (stamp_of r) o) (r == reading_of o)
    (λ e. let p = and_parts ((stamp_of r).seconds == o.seconds) ((stamp_of r).nanoseconds == o.nanoseconds) e in
    let a : r / second ≡ o.seconds = eqb-true (stamp_of r).seconds o.seconds p.0 in
    let b : r % second ≡ o.nanoseconds = eqb-true (stamp_of r).nanoseconds o.nanoseconds p.1 in
    eq-eqb r (reading_of o) (omega arith))
    (λ e. let a : r ≡ reading_of o = eqb-true r (reading_of o) e in
    both ((stamp_of r).seconds == o.seconds) ((stamp_of r).nanoseconds == o.nanoseconds)
    (eq-eqb (stamp_of r).seconds o.seconds (omega arith)) (eq-eqb (stamp_of r).nanoseconds o.nanoseconds (omega arith)))

-- and one with more nanoseconds is that of none
no_originate : (originate : Stamp) (r : ℕ) → second ≤ originate.nanoseconds
    → is_same_stamp (stamp_of r) originate ≡ false
no_originate o r h =
    same_test (is_same_stamp (stamp_of r) o) false
    (λ e. let p = and_parts ((stamp_of r).seconds == o.seconds) ((stamp_of r).nanoseconds == o.nanoseconds) e in
    let b : r % second ≡ o.nanoseconds = eqb-true (stamp_of r).nanoseconds o.nanoseconds p.1 in
    absurd (omega arith))
    (λ e. absurd (false≢true e))

-- such an originate value is among the requests where its reading is
pub found_by_reading : (originate : Stamp) (xs : List ℕ) → originate.nanoseconds < second
    → list_any (λ r. is_same_stamp (stamp_of r) originate) xs ≡ list_any (λ r. r == reading_of originate) xs
found_by_reading o [] h = refl
found_by_reading o (x ∷ xs) h = rw (same_originate o x h, found_by_reading o xs h) refl

-- and one with more nanoseconds is among none
pub found_nowhere : (originate : Stamp) (xs : List ℕ) → second ≤ originate.nanoseconds
    → list_any (λ r. is_same_stamp (stamp_of r) originate) xs ≡ false
found_nowhere o [] h = refl
found_nowhere o (x ∷ xs) h = rw (no_originate o x h, found_nowhere o xs h) refl

-- ---- in two parts
either_true : (a b : Bool) → a ≡ true → (a || b) ≡ true
either_true true b e = refl
either_true false b e = absurd (false≢true e)

-- where the first test is false the second decides
either_false : (a b : Bool) → a ≡ false → (a || b) ≡ b
either_false false b e = refl
either_false true b e = absurd (false≢true (sym e))

-- a request is in the ring where it is in one of its parts
in_two_parts : (r : ℕ) (front back items : List ℕ) → front ++ back ≡ items
    → list_any (λ a. a == r) (reverse items) ≡ (list_any (λ a. a == r) front || list_any (λ a. a == r) back)
in_two_parts r front back items e =
    list_any-reverse (λ (a : ℕ). a == r) items
    ∙ ap (λ (xs : List ℕ). list_any (λ a. a == r) xs) (sym e)
    ∙ list_any-append (λ (a : ℕ). a == r) front back

-- so where the first part has it
pub found_in_front : (r : ℕ) (front back items asked : List ℕ) (found : Bool)
    → front ++ back ≡ items → reverse items ≡ asked
    → found ≡ list_any (λ a. a == r) front → found ≡ true → found ≡ list_any (λ a. a == r) asked
found_in_front r front back items asked found e v f t =
    t ∙ sym (ap (λ (xs : List ℕ). list_any (λ a. a == r) xs) (sym v) ∙ in_two_parts r front back items e
    ∙ either_true (list_any (λ a. a == r) front) (list_any (λ a. a == r) back) (sym f ∙ t))

-- and otherwise where the second has it
pub found_in_back : (r : ℕ) (front back items asked : List ℕ) (found found_too : Bool)
    → front ++ back ≡ items → reverse items ≡ asked
    → found ≡ list_any (λ a. a == r) front → found ≡ false → found_too ≡ list_any (λ a. a == r) back
    → found_too ≡ list_any (λ a. a == r) asked
found_in_back r front back items asked found found_too e v f t g =
    g ∙ sym (ap (λ (xs : List ℕ). list_any (λ a. a == r) xs) (sym v) ∙ in_two_parts r front back items e
    ∙ either_false (list_any (λ a. a == r) front) (list_any (λ a. a == r) back) (sym f ∙ t))
