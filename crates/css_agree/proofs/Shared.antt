-- The best of what is kept is the best of all answers added.
use Rattle.std.proofs.Common.{◌≡◌, ℕ, ◌+◌, ◌-◌, ◌≤◌, arith, refl, ap, sym, subst, ◌∙◌, inl, inr, List, [], ◌∷◌}
use Rattle.std.specs.Prelude.{ℤ, ◌≤ℤ◌, Option, Some, None, All, Contains, reverse}
use Rattle.std.proofs.lemmas.Int.{ints}
use Rattle.std.proofs.lemmas.List.{reverse-reverse}
use Rattle.std.proofs.lemmas.List.Elements.{All-head, All-tail, All-weaker}
use Rattle.css_model.specs.declared.TheConstants.{F}
use Rattle.css_model.specs.WallClock.{Answer, Local, IsLocal, lower, upper, lo, hi}
use Rattle.css_num.proofs.Rounding.{floor_div-mono, ceil_div-mono}
use Rattle.css_span.specs.Frontiers.{Answers, IsPossible}
use Rattle.css_agree.specs.declared.best.Best.{Best}
use Rattle.css_agree.specs.Bests.{best_of}
use Rattle.css_agree.specs.Agreements.{HasGreatestLow, HasLeastHigh}
use Rattle.css_agree.specs.Keeping.{Kept, IsKept, OfBoth}
use Rattle.css_agree.proofs.Choices.{IsBeaten, best_of-beats, best_of-keeps, best_of-none, better-of_both}
use Rattle.css_agree.proofs.Choices.{All-reversed, All-unreversed}
use Rattle.css_agree.proofs.Standing.{Holds, IsMatched, both-later}

-- rounding keeps the order
pub lo-mono : (own : Local) (a b : Answer) (r : ℕ) → lower own a r ≤ℤ lower own b r → lo own a r ≤ℤ lo own b r
unfolding lo
lo-mono own a b r h = floor_div-mono (lower own a r) (lower own b r) (F + own.error) (omega arith) h

pub hi-mono : (own : Local) (a b : Answer) (r : ℕ) → IsLocal own → upper own a r ≤ℤ upper own b r
    → hi own a r ≤ℤ hi own b r
unfolding hi
hi-mono own a b r local h = ceil_div-mono (upper own a r) (upper own b r) (F - own.error) (omega arith) h

-- an answer that is matched is no better than the best
low-matched : (own : Local) (r : ℕ) (best : Best) (xs : List Best) (a : Answer) → All (IsBeaten own r best) xs
    → IsMatched own xs a → lower own a r ≤ℤ lower own best.low r
low-matched own r best [] a beaten m = absurd m
low-matched own r best (x ∷ xs) a beaten (inl here) =
    let x_beaten : IsBeaten own r best x = All-head (IsBeaten own r best) x xs beaten in
    omega (arith, ints, here.low r, x_beaten.low)
low-matched own r best (x ∷ xs) a beaten (inr rest) =
    low-matched own r best xs a (All-tail (IsBeaten own r best) x xs beaten) rest

high-matched : (own : Local) (r : ℕ) (best : Best) (xs : List Best) (a : Answer) → All (IsBeaten own r best) xs
    → IsMatched own xs a → upper own best.high r ≤ℤ upper own a r
high-matched own r best [] a beaten m = absurd m
high-matched own r best (x ∷ xs) a beaten (inl here) =
    let x_beaten : IsBeaten own r best x = All-head (IsBeaten own r best) x xs beaten in
    omega (arith, ints, here.high r, x_beaten.high)
high-matched own r best (x ∷ xs) a beaten (inr rest) =
    high-matched own r best xs a (All-tail (IsBeaten own r best) x xs beaten) rest

-- ---- the best of what is kept
-- what holds of both answers of each that is kept holds of both of the best
best-of_both : (own : Local) (r : ℕ) (P : Answer → Type 0) (xs : List Best) (best : Best) → All (OfBoth P) xs
    → best_of own r (reverse xs) ≡ Some best → OfBoth P best
best-of_both own r P xs best h e =
    best_of-keeps own r (OfBoth P) (better-of_both own r P) (reverse xs) best (All-reversed (OfBoth P) xs h) e

best-possible : (own : Local) (r s : ℕ) (xs : List Best) (best : Best) → IsLocal own → r ≤ s
    → All (OfBoth (IsPossible own r)) xs → best_of own s (reverse xs) ≡ Some best → OfBoth (IsPossible own s) best
best-possible own r s xs best local later h e =
    best-of_both own s (IsPossible own s) xs best (both-later own r s xs local later h) e

pub best-low : (own : Local) (r : ℕ) (bests : List Best) (added : Answers) (best : Best) → Holds own bests added
    → best_of own r (reverse bests) ≡ Some best → HasGreatestLow own r added best.low
best-low own r bests added best holds e =
    let beaten : All (IsBeaten own r best) bests =
    All-unreversed (IsBeaten own r best) bests (best_of-beats own r (reverse bests) best e) in
    let both : OfBoth (Contains added) best = best-of_both own r (Contains added) bests best holds.from e in
    record {
      is_among = both.low;
      greatest = All-weaker (IsMatched own bests) (λ other. lo own other r ≤ℤ lo own best.low r)
          (λ other m. lo-mono own other best.low r (low-matched own r best bests other beaten m))
          added holds.matched;
    }

pub best-high : (own : Local) (r : ℕ) (bests : List Best) (added : Answers) (best : Best) → IsLocal own
    → Holds own bests added → best_of own r (reverse bests) ≡ Some best → HasLeastHigh own r added best.high
best-high own r bests added best local holds e =
    let beaten : All (IsBeaten own r best) bests =
    All-unreversed (IsBeaten own r best) bests (best_of-beats own r (reverse bests) best e) in
    let both : OfBoth (Contains added) best = best-of_both own r (Contains added) bests best holds.from e in
    record {
      is_among = both.high;
      least = All-weaker (IsMatched own bests) (λ other. hi own best.high r ≤ℤ hi own other r)
          (λ other m. hi-mono own best.high other r local (high-matched own r best bests other beaten m))
          added holds.matched;
    }

-- where nothing is kept, nothing was added
nothing_matched : (own : Local) (added : Answers) → All (IsMatched own []) added → added ≡ []
nothing_matched own [] h = refl
nothing_matched own (a ∷ added) h = absurd (All-head (IsMatched own []) a added h)

pub nothing-added : (own : Local) (r : ℕ) (bests : List Best) (added : Answers) → Holds own bests added
    → best_of own r (reverse bests) ≡ None → added ≡ []
nothing-added own r bests added holds e =
    let turned : reverse bests ≡ [] = best_of-none own r (reverse bests) e in
    let empty : bests ≡ [] = sym (reverse-reverse bests) ∙ ap reverse turned in
    nothing_matched own added (subst (λ (xs : List Best). All (IsMatched own xs) added) empty holds.matched)

-- ---- from the fields of the code to what contracts see of them
-- what was found of the items is the best of what is kept
pub found-is : (r : ℕ) (inside now : Kept) (ys : List Best) (found : Option Best) → inside ≡ now → ys ≡ inside.bests
    → found ≡ best_of inside.local r (reverse ys) → best_of now.local r (reverse now.bests) ≡ found
found-is r inside now ys found same items e =
    sym (e ∙ ap (λ (xs : List Best). best_of inside.local r (reverse xs)) items
    ∙ ap (λ (k : Kept). best_of k.local r (reverse k.bests)) same)

-- the best is still possible
pub found-possible : (r : ℕ) (inside now : Kept) (best : Best) → inside ≡ now → IsKept inside → now.floor ≤ r
    → best_of now.local r (reverse now.bests) ≡ Some best → OfBoth (IsPossible inside.local r) best
found-possible r inside now best same held later found =
    best-possible inside.local inside.floor r inside.bests best held.local
    (subst (λ (k : Kept). k.floor ≤ r) (sym same) later) held.possible
    (subst (λ (k : Kept). best_of k.local r (reverse k.bests) ≡ Some best) (sym same) found)

-- the lower end and the upper end that were computed
pub low-is : (r : ℕ) (inside now : Kept) (a : Answer) (end : ℤ) → inside ≡ now → end ≡ lo inside.local a r
    → end ≡ lo now.local a r
low-is r inside now a end same e = e ∙ ap (λ (k : Kept). lo k.local a r) same

pub high-is : (r : ℕ) (inside now : Kept) (a : Answer) (end : ℤ) → inside ≡ now → end ≡ hi inside.local a r
    → end ≡ hi now.local a r
high-is r inside now a end same e = e ∙ ap (λ (k : Kept). hi k.local a r) same
