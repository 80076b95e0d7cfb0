-- What holds of the better of two answers at each end, and of the best of all.
use Rattle.std.proofs.Common.{◌≡◌, ℕ, arith, refl, sym, ap₂, subst, Bool, true, false, List, [], ◌∷◌}
use Rattle.std.specs.Prelude.{ℤ, ◌≤ℤ◌, int_lt, nat_lt, if◌then◌else◌, Option, Some, None, All, reverse}
use Rattle.std.proofs.lemmas.Int.{ints}
use Rattle.std.proofs.lemmas.List.{reverse-append, reverse-reverse}
use Rattle.std.proofs.lemmas.List.Elements.{All-cons, All-head, All-tail, All-nil, All-push, All-weaker}
use Rattle.css_model.specs.WallClock.{Answer, Local, lower, upper}
use Rattle.css_agree.specs.declared.best.Best.{Best}
use Rattle.css_agree.specs.Bests.{higher_low, lesser_high, better_of, better_than, best_of}
use Rattle.css_agree.specs.Keeping.{OfBoth}
use Rattle.css_agree.proofs.Alike.{ends_move_alike}

-- where the test says less, it is
less_if : (a b : ℤ) → int_lt a b ≡ true → a ≤ℤ b
less_if a b e = omega (arith, ints, e)

-- and where it doesn't, it isn't
no_less_if : (a b : ℤ) → int_lt a b ≡ false → b ≤ℤ a
no_less_if a b e = omega (arith, ints, e)

-- what holds of both values holds of the one that tests choose
chosen : {A : Type 0} (P : A → Type 0) (t u v : Bool) (x y : A) → P x → P y
    → P (if t then y else if u then x else if v then y else x)
chosen P true u v x y at_x at_y = at_y
chosen P false true v x y at_x at_y = at_x
chosen P false false true x y at_x at_y = at_y
chosen P false false false x y at_x at_y = at_x

-- tests of ends whose order is the same say the same
same_test : (a b c d : ℤ) → (a ≤ℤ b → c ≤ℤ d) → (c ≤ℤ d → a ≤ℤ b) → int_lt b a ≡ int_lt d c
same_test a b c d go back = by (int_lt b a) refl (int_lt d c) refl
  where
    by : (t : Bool) → int_lt b a ≡ t → (u : Bool) → int_lt d c ≡ u → t ≡ u
    by true e true f = refl
    by false e false f = refl
    by true e false f = absurd (omega (arith, ints, e, back (no_less_if d c f)))
    by false e true f = absurd (omega (arith, ints, f, go (no_less_if b a e)))

-- ---- the higher of two lower ends
pub higher-of_both : (own : Local) (r : ℕ) (P : Answer → Type 0) (a b : Answer) → P a → P b → P (higher_low own r a b)
higher-of_both own r P a b =
    chosen P (int_lt (lower own a r) (lower own b r)) (int_lt (lower own b r) (lower own a r)) (nat_lt b.t4 a.t4) a b

-- it is no lower than either
pub higher : (own : Local) (r : ℕ) (a b : Answer) → (lower own a r ≤ℤ lower own (higher_low own r a b) r)
    × (lower own b r ≤ℤ lower own (higher_low own r a b) r)
higher own r a b =
    by (int_lt (lower own a r) (lower own b r)) refl (int_lt (lower own b r) (lower own a r)) refl (nat_lt b.t4 a.t4)
  where
    by : (t : Bool) → int_lt (lower own a r) (lower own b r) ≡ t
        → (u : Bool) → int_lt (lower own b r) (lower own a r) ≡ u → (v : Bool)
        → (lower own a r ≤ℤ lower own (if t then b else if u then a else if v then b else a) r)
        × (lower own b r ≤ℤ lower own (if t then b else if u then a else if v then b else a) r)
    by true e u f v = (less_if (lower own a r) (lower own b r) e, omega (arith, ints))
    by false e true f v = (omega (arith, ints), less_if (lower own b r) (lower own a r) f)
    by false e false f true = (no_less_if (lower own b r) (lower own a r) f, omega (arith, ints))
    by false e false f false = (omega (arith, ints), no_less_if (lower own a r) (lower own b r) e)

-- of one declared error it is the same at each reading
pub higher-alike : (own : Local) (r s : ℕ) (a b : Answer) → a.error ≡ b.error
    → higher_low own r a b ≡ higher_low own s a b
higher-alike own r s a b same =
    let there = ends_move_alike own a b same in
    let back = ends_move_alike own b a (sym same) in
    ap₂ (λ (t u : Bool). if t then b else if u then a else if nat_lt b.t4 a.t4 then b else a)
    (same_test (lower own b r) (lower own a r) (lower own b s) (lower own a s) (back.lows r s) (back.lows s r))
    (same_test (lower own a r) (lower own b r) (lower own a s) (lower own b s) (there.lows r s) (there.lows s r))

-- ---- the lesser of two upper ends
pub lesser-of_both : (own : Local) (r : ℕ) (P : Answer → Type 0) (a b : Answer) → P a → P b → P (lesser_high own r a b)
lesser-of_both own r P a b =
    chosen P (int_lt (upper own b r) (upper own a r)) (int_lt (upper own a r) (upper own b r)) (nat_lt b.t4 a.t4) a b

-- it is no greater than either
pub lesser : (own : Local) (r : ℕ) (a b : Answer) → (upper own (lesser_high own r a b) r ≤ℤ upper own a r)
    × (upper own (lesser_high own r a b) r ≤ℤ upper own b r)
lesser own r a b =
    by (int_lt (upper own b r) (upper own a r)) refl (int_lt (upper own a r) (upper own b r)) refl (nat_lt b.t4 a.t4)
  where
    by : (t : Bool) → int_lt (upper own b r) (upper own a r) ≡ t
        → (u : Bool) → int_lt (upper own a r) (upper own b r) ≡ u → (v : Bool)
        → (upper own (if t then b else if u then a else if v then b else a) r ≤ℤ upper own a r)
        × (upper own (if t then b else if u then a else if v then b else a) r ≤ℤ upper own b r)
    by true e u f v = (less_if (upper own b r) (upper own a r) e, omega (arith, ints))
    by false e true f v = (omega (arith, ints), less_if (upper own a r) (upper own b r) f)
    by false e false f true = (no_less_if (upper own a r) (upper own b r) f, omega (arith, ints))
    by false e false f false = (omega (arith, ints), no_less_if (upper own b r) (upper own a r) e)

pub lesser-alike : (own : Local) (r s : ℕ) (a b : Answer) → a.error ≡ b.error
    → lesser_high own r a b ≡ lesser_high own s a b
lesser-alike own r s a b same =
    let there = ends_move_alike own a b same in
    let back = ends_move_alike own b a (sym same) in
    ap₂ (λ (t u : Bool). if t then b else if u then a else if nat_lt b.t4 a.t4 then b else a)
    (same_test (upper own a r) (upper own b r) (upper own a s) (upper own b s) (there.highs r s) (there.highs s r))
    (same_test (upper own b r) (upper own a r) (upper own b s) (upper own a s) (back.highs r s) (back.highs s r))

-- what holds of both answers of each holds of both of the better
pub better-of_both : (own : Local) (r : ℕ) (P : Answer → Type 0) (a b : Best) → OfBoth P a → OfBoth P b
    → OfBoth P (better_of own r a b)
better-of_both own r P a b h k = record {
  low = higher-of_both own r P a.low b.low h.low k.low;
  high = lesser-of_both own r P a.high b.high h.high k.high;
}

-- ---- the best of all
-- no lower end is above this one's, and no upper end is below it
pub record IsBeaten (own : Local) (r : ℕ) (best other : Best) : Type 0 where
  pub low : lower own other.low r ≤ℤ lower own best.low r
  pub high : upper own best.high r ≤ℤ upper own other.high r

beaten-first : (own : Local) (r : ℕ) (a b : Best) → IsBeaten own r (better_of own r a b) a
beaten-first own r a b = record { low = (higher own r a.low b.low).0; high = (lesser own r a.high b.high).0 }

beaten-second : (own : Local) (r : ℕ) (a b : Best) → IsBeaten own r (better_of own r a b) b
beaten-second own r a b = record { low = (higher own r a.low b.low).1; high = (lesser own r a.high b.high).1 }

beaten-itself : (own : Local) (r : ℕ) (a : Best) → IsBeaten own r a a
beaten-itself own r a = record { low = omega (arith, ints); high = omega (arith, ints) }

beaten-through : (own : Local) (r : ℕ) (a b c : Best) → IsBeaten own r a b → IsBeaten own r b c → IsBeaten own r a c
beaten-through own r a b c h k = record {
  low = omega (arith, ints, h.low, k.low);
  high = omega (arith, ints, h.high, k.high);
}

-- there is a best of any
pub best_of-none : (own : Local) (r : ℕ) (xs : List Best) → best_of own r xs ≡ None → xs ≡ []
best_of-none own r [] e = refl
best_of-none own r (x ∷ xs) e = by (best_of own r xs) e
  where
    by : (o : Option Best) → better_than own r x o ≡ None → x ∷ xs ≡ []
    by None e = cc
    by (Some older) e = cc

-- the best beats each
pub best_of-beats : (own : Local) (r : ℕ) (xs : List Best) (best : Best) → best_of own r xs ≡ Some best
    → All (IsBeaten own r best) xs
best_of-beats own r [] best e = cc
best_of-beats own r (x ∷ xs) best e = by (best_of own r xs) refl e (best_of-beats own r xs)
  where
    by : (o : Option Best) → best_of own r xs ≡ o → better_than own r x o ≡ Some best
        → ((b : Best) → best_of own r xs ≡ Some b → All (IsBeaten own r b) xs) → All (IsBeaten own r best) (x ∷ xs)
    by None none chosen ih =
        let same : x ≡ best = cc chosen in
        rw (best_of-none own r xs none, ← same)
        (All-cons (IsBeaten own r x) x [] (beaten-itself own r x) (All-nil (IsBeaten own r x)))
    by (Some older) some chosen ih =
        let same : better_of own r older x ≡ best = cc chosen in
        let through : All (IsBeaten own r (better_of own r older x)) xs =
        All-weaker (IsBeaten own r older) (IsBeaten own r (better_of own r older x))
        (λ y h. beaten-through own r (better_of own r older x) older y (beaten-first own r older x) h)
        xs (ih older some) in
        subst (λ (b : Best). All (IsBeaten own r b) (x ∷ xs)) same
        (All-cons (IsBeaten own r (better_of own r older x)) x xs (beaten-second own r older x) through)

-- what holds of the better of two of which it holds, and of each, holds of the best
pub best_of-keeps : (own : Local) (r : ℕ) (P : Best → Type 0)
    → ((a b : Best) → P a → P b → P (better_of own r a b))
    → (xs : List Best) (best : Best) → All P xs → best_of own r xs ≡ Some best → P best
best_of-keeps own r P closed [] best h e = cc
best_of-keeps own r P closed (x ∷ xs) best h e =
    by (best_of own r xs) (λ b. best_of-keeps own r P closed xs b (All-tail P x xs h)) e
  where
    by : (o : Option Best) → ((b : Best) → o ≡ Some b → P b) → better_than own r x o ≡ Some best → P best
    by None rest chosen =
        let same : x ≡ best = cc chosen in
        subst P same (All-head P x xs h)
    by (Some older) rest chosen =
        let same : better_of own r older x ≡ best = cc chosen in
        subst P same (closed older x (rest older refl) (All-head P x xs h))

-- ---- in the other order
pub All-reversed : {A : Type 0} (P : A → Type 0) (xs : List A) → All P xs → All P (reverse xs)
All-reversed P [] h = h
All-reversed P (x ∷ xs) h =
    rw (reverse-append (x ∷ []) xs)
    (All-push P (reverse xs) x (All-reversed P xs (All-tail P x xs h)) (All-head P x xs h))

pub All-unreversed : {A : Type 0} (P : A → Type 0) (xs : List A) → All P (reverse xs) → All P xs
All-unreversed P xs h = rw reverse-reverse at (All-reversed P (reverse xs) h)
