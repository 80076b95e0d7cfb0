-- What is kept with one more answer, by the place of the one of its declared error.
use Rattle.std.proofs.Common.{◌≡◌, ◌≢◌, ℕ, zero, suc, ◌<◌, arith, refl, ap, true, false}
use Rattle.std.proofs.Common.{List, [], ◌∷◌, ◌++◌, length, get_or}
use Rattle.std.specs.Prelude.{◌==◌, All}
use Rattle.std.proofs.Math.ListN.{set}
use Rattle.std.proofs.lemmas.Bool.{ne_eqb}
use Rattle.std.proofs.lemmas.List.Elements.{All-head, All-tail}
use Rattle.css_model.specs.WallClock.{Answer, Local}
use Rattle.css_agree.specs.declared.best.Best.{Best}
use Rattle.css_agree.specs.Bests.{better_of, alone, kept_with}

-- none of them declares the error: it joins at the end
pub kept_with-none : (own : Local) (r : ℕ) (a : Answer) (xs : List Best)
    → All (λ b. b.low.error ≢ a.error) xs → kept_with own r a xs ≡ xs ++ alone a ∷ []
kept_with-none own r a [] h = refl
kept_with-none own r a (x ∷ xs) h =
    let P = λ (b : Best). b.low.error ≢ a.error in
    let here : (x.low.error == a.error) ≡ false = ne_eqb x.low.error a.error (All-head P x xs h) in
    rw here (ap (λ ys. x ∷ ys) (kept_with-none own r a xs (All-tail P x xs h)))

-- the one at place i is the first that declares it: it is replaced
pub kept_with-at : (own : Local) (r : ℕ) (a : Answer) (xs : List Best) (i : ℕ) (d : Best) → i < length xs
    → ((k : ℕ) → k < i → ((get_or xs k d).low.error == a.error) ≡ false)
    → ((get_or xs i d).low.error == a.error) ≡ true
    → kept_with own r a xs ≡ set xs i (better_of own r (get_or xs i d) (alone a))
kept_with-at own r a [] i d h before here = absurd (omega arith)
kept_with-at own r a (x ∷ xs) zero d h before here = rw here refl
kept_with-at own r a (x ∷ xs) (suc i) d h before here =
    let first : (x.low.error == a.error) ≡ false = before 0 (omega arith) in
    rw first (ap (λ ys. x ∷ ys)
    (kept_with-at own r a xs i d (omega arith) (λ k below. before (suc k) (omega arith)) here))

-- what made room at a place comes back
pub undone-at : (xs : List Best) (i : ℕ) (b d : Best) → set (set xs i b) i (get_or xs i d) ≡ xs
undone-at [] i b d = refl
undone-at (x ∷ xs) zero b d = refl
undone-at (x ∷ xs) (suc i) b d = ap (λ ys. x ∷ ys) (undone-at xs i b d)
