-- What stands for the answers added goes on standing for them with one more.
use Rattle.std.proofs.Common.{◌≡◌, ℕ, suc, ◌≤◌, arith, refl, ap, ap₂, sym, subst, ◌∙◌, inl, inr, Bool, true, false}
use Rattle.std.proofs.Common.{List, [], ◌∷◌, length}
use Rattle.std.specs.Prelude.{◌==◌, ◌||◌, ◌≤ℤ◌, ◌⊎◌, if◌then◌else◌, All, Contains}
use Rattle.std.proofs.lemmas.Int.{ints}
use Rattle.std.proofs.lemmas.Bool.{eqb-true}
use Rattle.std.proofs.lemmas.List.Elements.{All-cons, All-head, All-tail, All-nil, All-weaker}
use Rattle.css_model.specs.WallClock.{Answer, Local, IsLocal, lower, upper}
use Rattle.css_span.specs.Frontiers.{Answers, IsPossible, declares, error_count}
use Rattle.css_model.proofs.Ends.{scaled_width-later}
use Rattle.css_span.proofs.Standing.{possible-later}
use Rattle.css_agree.specs.declared.best.Best.{Best}
use Rattle.css_agree.specs.Bests.{better_of, alone, bests_of, kept_with}
use Rattle.css_agree.specs.Keeping.{Kept, OfBoth, StandsFor}
use Rattle.css_agree.proofs.Alike.{ends_move_alike}
use Rattle.css_agree.proofs.Choices.{better-of_both, higher, higher-alike, higher-of_both}
use Rattle.css_agree.proofs.Choices.{lesser, lesser-alike, lesser-of_both}

-- ---- what is kept
-- both answers declare one error
abbrev pub DeclareOne : Best → Type 0
DeclareOne best = best.low.error ≡ best.high.error

-- Both declare the answer's error. At every reading the lower end of the one isn't below the answer's, and the upper
-- end of the other isn't above it, before they are rounded.
pub record IsNoWorse (own : Local) (answer : Answer) (best : Best) : Type 0 where
  pub same_low : best.low.error ≡ answer.error
  pub same_high : best.high.error ≡ answer.error
  pub low : (reading : ℕ) → lower own answer reading ≤ℤ lower own best.low reading
  pub high : (reading : ℕ) → upper own best.high reading ≤ℤ upper own answer reading

-- one of the kept is no worse than the answer
abbrev pub IsMatched : Local → List Best → Answer → Type 0
IsMatched own [] answer = ⊥
IsMatched own (best ∷ bests) answer = IsNoWorse own answer best ⊎ IsMatched own bests answer

-- whether one of the kept declares the error
abbrev pub keeps : ℕ → List Best → Bool
keeps error [] = false
keeps error (best ∷ bests) = (best.low.error == error) || keeps error bests

-- Each kept answer was added; for each answer added one of the kept is no worse; the same errors are declared, and by
-- one of the kept each.
pub record Holds (own : Local) (bests : List Best) (added : Answers) : Type 0 where
  pub from : All (OfBoth (Contains added)) bests
  pub same : All DeclareOne bests
  pub matched : All (IsMatched own bests) added
  pub errors : (error : ℕ) → keeps error bests ≡ declares error added
  pub count : length bests ≡ error_count added

-- ---- what holds of each answer that is kept, and of the new one, goes on holding of each that is kept
pub of_both-with : (own : Local) (r : ℕ) (P : Answer → Type 0) (a : Answer) (xs : List Best) → P a → All (OfBoth P) xs
    → All (OfBoth P) (kept_with own r a xs)
of_both-with own r P a [] here h =
    All-cons (OfBoth P) (alone a) [] (record { low = here; high = here }) (All-nil (OfBoth P))
of_both-with own r P a (x ∷ xs) here h =
    by (x.low.error == a.error) (of_both-with own r P a xs here (All-tail (OfBoth P) x xs h))
  where
    by : (t : Bool) → All (OfBoth P) (kept_with own r a xs)
        → All (OfBoth P) (if t then better_of own r x (alone a) ∷ xs else x ∷ kept_with own r a xs)
    by true ih =
        let first : OfBoth P x = All-head (OfBoth P) x xs h in
        All-cons (OfBoth P) (better_of own r x (alone a)) xs
        (better-of_both own r P x (alone a) first (record { low = here; high = here }))
        (All-tail (OfBoth P) x xs h)
    by false ih = All-cons (OfBoth P) x (kept_with own r a xs) (All-head (OfBoth P) x xs h) ih

-- ---- the errors
-- the better of the two declares the error of both
low_error : (own : Local) (r : ℕ) (x : Best) (a : Answer) → x.low.error ≡ a.error
    → (better_of own r x (alone a)).low.error ≡ a.error
low_error own r x a same = higher-of_both own r (λ b. b.error ≡ a.error) x.low a same refl

high_error : (own : Local) (r : ℕ) (x : Best) (a : Answer) → x.high.error ≡ a.error
    → (better_of own r x (alone a)).high.error ≡ a.error
high_error own r x a same = lesser-of_both own r (λ b. b.error ≡ a.error) x.high a same refl

pub of_one-with : (own : Local) (r : ℕ) (a : Answer) (xs : List Best) → All DeclareOne xs
    → All DeclareOne (kept_with own r a xs)
of_one-with own r a [] h = All-cons DeclareOne (alone a) [] refl (All-nil DeclareOne)
of_one-with own r a (x ∷ xs) h = by (x.low.error == a.error) refl (of_one-with own r a xs (All-tail DeclareOne x xs h))
  where
    by : (t : Bool) → (x.low.error == a.error) ≡ t → All DeclareOne (kept_with own r a xs)
        → All DeclareOne (if t then better_of own r x (alone a) ∷ xs else x ∷ kept_with own r a xs)
    by true e ih =
        let same : x.low.error ≡ a.error = eqb-true x.low.error a.error e in
        let one : x.low.error ≡ x.high.error = All-head DeclareOne x xs h in
        All-cons DeclareOne (better_of own r x (alone a)) xs
        (low_error own r x a same ∙ sym (high_error own r x a (sym one ∙ same)))
        (All-tail DeclareOne x xs h)
    by false e ih = All-cons DeclareOne x (kept_with own r a xs) (All-head DeclareOne x xs h) ih

-- the new answer's error is kept beside the others
pub keeps-with : (own : Local) (r : ℕ) (a : Answer) (xs : List Best) (e : ℕ)
    → keeps e (kept_with own r a xs) ≡ ((a.error == e) || keeps e xs)
keeps-with own r a [] e = refl
keeps-with own r a (x ∷ xs) e = by (x.low.error == a.error) refl (keeps-with own r a xs e)
  where
    twice : (p q : Bool) → (p || q) ≡ (p || (p || q))
    twice true q = refl
    twice false q = refl

    swap : (p q s : Bool) → (p || (q || s)) ≡ (q || (p || s))
    swap true true s = refl
    swap true false s = refl
    swap false true s = refl
    swap false false s = refl

    by : (t : Bool) → (x.low.error == a.error) ≡ t → keeps e (kept_with own r a xs) ≡ ((a.error == e) || keeps e xs)
        → keeps e (if t then better_of own r x (alone a) ∷ xs else x ∷ kept_with own r a xs)
        ≡ ((a.error == e) || ((x.low.error == e) || keeps e xs))
    by true f ih =
        let same : x.low.error ≡ a.error = eqb-true x.low.error a.error f in
        ap (λ n. (n == e) || keeps e xs) (low_error own r x a same)
        ∙ twice (a.error == e) (keeps e xs)
        ∙ ap (λ n. (a.error == e) || ((n == e) || keeps e xs)) (sym same)
    by false f ih = ap (λ t. (x.low.error == e) || t) ih ∙ swap (x.low.error == e) (a.error == e) (keeps e xs)

-- one more is kept where none declares the new answer's error
pub length-with : (own : Local) (r : ℕ) (a : Answer) (xs : List Best)
    → length (kept_with own r a xs) ≡ (if keeps a.error xs then length xs else suc (length xs))
length-with own r a [] = refl
length-with own r a (x ∷ xs) = by (x.low.error == a.error) (keeps a.error xs) (length-with own r a xs)
  where
    by : (t u : Bool) → length (kept_with own r a xs) ≡ (if u then length xs else suc (length xs))
        → length (if t then better_of own r x (alone a) ∷ xs else x ∷ kept_with own r a xs)
        ≡ (if t || u then suc (length xs) else suc (suc (length xs)))
    by true u ih = refl
    by false true ih = ap suc ih
    by false false ih = ap suc ih

-- ---- what is no worse than an answer
-- the better of the two is no worse than either, at every reading
no_worse-first : (own : Local) (r : ℕ) (x : Best) (a b : Answer) → x.low.error ≡ a.error → IsNoWorse own b x
    → IsNoWorse own b (better_of own r x (alone a))
no_worse-first own r x a b same h =
    let one : b.error ≡ a.error = sym h.same_low ∙ same in
    let better = better_of own r x (alone a) in
    let low : better.low.error ≡ a.error = low_error own r x a same in
    let high : better.high.error ≡ a.error = high_error own r x a (h.same_high ∙ one) in
    record {
      same_low = low ∙ sym one;
      same_high = high ∙ sym one;
      low = λ s.
          let more : lower own x.low s ≤ℤ lower own better.low s =
          (ends_move_alike own x.low better.low (same ∙ sym low)).lows r s (higher own r x.low a).0 in
          omega (arith, ints, h.low s);
      high = λ s.
          let less : upper own better.high s ≤ℤ upper own x.high s =
          (ends_move_alike own better.high x.high (high ∙ sym one ∙ sym h.same_high)).highs r s
          (lesser own r x.high a).0 in
          omega (arith, ints, h.high s);
    }

no_worse-second : (own : Local) (r : ℕ) (x : Best) (a : Answer) → x.low.error ≡ a.error → DeclareOne x
    → IsNoWorse own a (better_of own r x (alone a))
no_worse-second own r x a same one =
    let better = better_of own r x (alone a) in
    let low : better.low.error ≡ a.error = low_error own r x a same in
    let high : better.high.error ≡ a.error = high_error own r x a (sym one ∙ same) in
    record {
      same_low = low;
      same_high = high;
      low = λ s. (ends_move_alike own a better.low (sym low)).lows r s (higher own r x.low a).1;
      high = λ s. (ends_move_alike own better.high a high).highs r s (lesser own r x.high a).1;
    }

no_worse-alone : (own : Local) (a : Answer) → IsNoWorse own a (alone a)
no_worse-alone own a = record {
  same_low = refl;
  same_high = refl;
  low = λ s. omega (arith, ints);
  high = λ s. omega (arith, ints);
}

-- an answer that was matched still is
pub matched-with : (own : Local) (r : ℕ) (a b : Answer) (xs : List Best) → IsMatched own xs b
    → IsMatched own (kept_with own r a xs) b
matched-with own r a b [] h = absurd h
matched-with own r a b (x ∷ xs) h = by (x.low.error == a.error) refl (matched-with own r a b xs) h
  where
    by : (t : Bool) → (x.low.error == a.error) ≡ t → (IsMatched own xs b → IsMatched own (kept_with own r a xs) b)
        → IsMatched own (x ∷ xs) b
        → IsMatched own (if t then better_of own r x (alone a) ∷ xs else x ∷ kept_with own r a xs) b
    by true e ih (inl here) = inl (no_worse-first own r x a b (eqb-true x.low.error a.error e) here)
    by true e ih (inr rest) = inr rest
    by false e ih (inl here) = inl here
    by false e ih (inr rest) = inr (ih rest)

-- and the new one is
pub matched-new : (own : Local) (r : ℕ) (a : Answer) (xs : List Best) → All DeclareOne xs
    → IsMatched own (kept_with own r a xs) a
matched-new own r a [] one = inl (no_worse-alone own a)
matched-new own r a (x ∷ xs) one =
    by (x.low.error == a.error) refl (matched-new own r a xs (All-tail DeclareOne x xs one))
  where
    by : (t : Bool) → (x.low.error == a.error) ≡ t → IsMatched own (kept_with own r a xs) a
        → IsMatched own (if t then better_of own r x (alone a) ∷ xs else x ∷ kept_with own r a xs) a
    by true e ih = inl (no_worse-second own r x a (eqb-true x.low.error a.error e) (All-head DeclareOne x xs one))
    by false e ih = inr ih

-- ---- all of it
contains-here : (a : Answer) (xs : Answers) → Contains (a ∷ xs) a
contains-here a xs = (0, omega arith, refl)

contains-there : (a b : Answer) (xs : Answers) → Contains xs b → Contains (a ∷ xs) b
contains-there a b xs h = (suc h.0, omega (arith, h.1), h.2)

-- what holds the best of some answers holds it with one more
holds-with : (own : Local) (r : ℕ) (a : Answer) (xs : List Best) (added : Answers) → Holds own xs added
    → Holds own (kept_with own r a xs) (a ∷ added)
holds-with own r a xs added holds =
    let before : All (OfBoth (Contains (a ∷ added))) xs =
    All-weaker (OfBoth (Contains added)) (OfBoth (Contains (a ∷ added)))
    (λ b h. record { low = contains-there a b.low added h.low; high = contains-there a b.high added h.high })
    xs holds.from in
    record {
      from = of_both-with own r (Contains (a ∷ added)) a xs (contains-here a added) before;
      same = of_one-with own r a xs holds.same;
      matched = All-cons (IsMatched own (kept_with own r a xs)) a added
          (matched-new own r a xs holds.same)
          (All-weaker (IsMatched own xs) (IsMatched own (kept_with own r a xs))
          (λ b. matched-with own r a b xs) added holds.matched);
      errors = λ e. keeps-with own r a xs e ∙ ap (λ t. (a.error == e) || t) (holds.errors e);
      count = length-with own r a xs
          ∙ ap (λ t. if t then length xs else suc (length xs)) (holds.errors a.error)
          ∙ ap (λ n. if declares a.error added then n else suc n) holds.count;
    }

pub bests-hold : (own : Local) (r : ℕ) (added : Answers) → Holds own (bests_of own r added) added
bests-hold own r [] = record {
  from = All-nil (OfBoth (Contains []));
  same = All-nil DeclareOne;
  matched = All-nil (IsMatched own []);
  errors = λ e. refl;
  count = refl;
}
bests-hold own r (a ∷ added) = holds-with own r a (bests_of own r added) added (bests-hold own r added)

pub kept-holds : (kept : Kept) (added : Answers) → StandsFor kept added → Holds kept.local kept.bests added
kept-holds kept added stands =
    subst (λ (xs : List Best). Holds kept.local xs added) (sym (stands.exact 0)) (bests-hold kept.local 0 added)

-- ---- at each reading the same is kept
kept-alike : (own : Local) (r s : ℕ) (a : Answer) (xs : List Best) → All DeclareOne xs
    → kept_with own r a xs ≡ kept_with own s a xs
kept-alike own r s a [] one = refl
kept-alike own r s a (x ∷ xs) one =
    by (x.low.error == a.error) refl (kept-alike own r s a xs (All-tail DeclareOne x xs one))
  where
    by : (t : Bool) → (x.low.error == a.error) ≡ t → kept_with own r a xs ≡ kept_with own s a xs
        → (if t then better_of own r x (alone a) ∷ xs else x ∷ kept_with own r a xs)
        ≡ (if t then better_of own s x (alone a) ∷ xs else x ∷ kept_with own s a xs)
    by true e ih =
        let same : x.low.error ≡ a.error = eqb-true x.low.error a.error e in
        let high : x.high.error ≡ a.error = sym (All-head DeclareOne x xs one) ∙ same in
        ap₂ (λ (l h : Answer). record { low = l; high = h } ∷ xs) (higher-alike own r s x.low a same)
        (lesser-alike own r s x.high a high)
    by false e ih = ap (λ (ys : List Best). x ∷ ys) ih

-- the answer is compared at reading s, and the floor goes from r to t
pub stands-with : (own : Local) (r s t : ℕ) (a : Answer) (xs : List Best) (added : Answers) → IsLocal own → r ≤ t
    → IsPossible own t a
    → StandsFor (record { local = own; bests = xs; floor = r }) added
    → StandsFor (record { local = own; bests = kept_with own s a xs; floor = t }) (a ∷ added)
stands-with own r s t a xs added local later possible stands =
    let holds = kept-holds (record { local = own; bests = xs; floor = r }) added stands in
    record {
      exact = λ q. kept-alike own s q a xs holds.same ∙ ap (kept_with own q a) (stands.exact q);
      possible = All-cons (IsPossible own t) a added possible
          (possible-later own r t added local later stands.possible);
    }

-- what is kept stays possible
pub one-later : (own : Local) (r s : ℕ) (a : Answer) → IsLocal own → r ≤ s → IsPossible own r a → IsPossible own s a
one-later own r s a local later h =
    record { ranges = h.ranges; wide = scaled_width-later own a r s local h.ranges.error later h.wide }

pub both-later : (own : Local) (r s : ℕ) (xs : List Best) → IsLocal own → r ≤ s → All (OfBoth (IsPossible own r)) xs
    → All (OfBoth (IsPossible own s)) xs
both-later own r s xs local later =
    All-weaker (OfBoth (IsPossible own r)) (OfBoth (IsPossible own s))
    (λ b h. record {
      low = one-later own r s b.low local later h.low;
      high = one-later own r s b.high local later h.high;
    })
    xs

pub possible-with : (own : Local) (r s t : ℕ) (a : Answer) (xs : List Best) → IsLocal own → r ≤ t → IsPossible own t a
    → All (OfBoth (IsPossible own r)) xs
    → All (OfBoth (IsPossible own t)) (kept_with own s a xs)
possible-with own r s t a xs local later possible h =
    of_both-with own s (IsPossible own t) a xs possible (both-later own r t xs local later h)
