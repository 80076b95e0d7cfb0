-- Lists of answers that declare the same errors have the same greatest one.
use Rattle.std.proofs.Common.{◌≡◌, ℕ, ◌≤◌, arith, sym, ◌∙◌, subst, refl, Bool, true, false, inl, inr, [], ◌∷◌}
use Rattle.std.specs.Prelude.{◌==◌, ◌||◌, ◌⊎◌, max, All}
use Rattle.std.proofs.lemmas.Bool.{eqb-true, eq-eqb, or_left, or_right}
use Rattle.std.proofs.lemmas.List.Elements.{All-head, All-tail}
use Rattle.css_model.specs.Numbers.{max_error}
use Rattle.css_model.specs.WallClock.{Local}
use Rattle.css_span.specs.Frontiers.{Answers, Frontier, IsPossible, StandsFor, declares, greatest_error}

-- no error that is declared is above the greatest
pub declared_below : (e : ℕ) (xs : Answers) → declares e xs ≡ true → e ≤ greatest_error xs
declared_below e [] h = absurd (cc)
declared_below e (x ∷ xs) h = by (x.error == e) refl h (declared_below e xs)
  where
    by : (t : Bool) → (x.error == e) ≡ t → (t || declares e xs) ≡ true
        → (declares e xs ≡ true → e ≤ greatest_error xs) → e ≤ greatest_error (x ∷ xs)
    by true g h rest = let same : x.error ≡ e = eqb-true x.error e g in omega arith
    by false g h rest = let below : e ≤ greatest_error xs = rest h in omega arith

-- the greatest is declared, unless it is 0
greatest_declared : (xs : Answers) → (declares (greatest_error xs) xs ≡ true) ⊎ (greatest_error xs ≡ 0)
greatest_declared [] = inr refl
greatest_declared (x ∷ xs) = elim (larger x.error (greatest_error xs)) [
  | inl newest ↦ inl (or_left (x.error == greatest_error (x ∷ xs)) (declares (greatest_error (x ∷ xs)) xs)
      (eq-eqb x.error (greatest_error (x ∷ xs)) (sym newest)))
  | inr older ↦ elim (greatest_declared xs) [
    | inl declared ↦ inl (or_right (x.error == greatest_error (x ∷ xs)) (declares (greatest_error (x ∷ xs)) xs)
        (subst (λ (e : ℕ). declares e xs ≡ true) (sym older) declared))
    | inr none ↦ inr (older ∙ none)
  ]
]
  where
    larger : (a b : ℕ) → (max a b ≡ a) ⊎ (max a b ≡ b)
    larger a b = grind arith

-- what is declared by the second list too is no greater there
no_greater : (xs ys : Answers) → ((e : ℕ) → declares e xs ≡ declares e ys) → greatest_error xs ≤ greatest_error ys
no_greater xs ys same = elim (greatest_declared xs) [
  | inl declared ↦ declared_below (greatest_error xs) ys (sym (same (greatest_error xs)) ∙ declared)
  | inr none ↦ omega (arith, none)
]

-- the answers that are possible declare no more than an answer may
pub greatest_in_range : (own : Local) (reading : ℕ) (xs : Answers) → All (IsPossible own reading) xs
    → greatest_error xs ≤ max_error
greatest_in_range own reading [] possible = omega arith
greatest_in_range own reading (x ∷ xs) possible =
    let here : IsPossible own reading x = All-head (IsPossible own reading) x xs possible in
    omega (
      arith,
      here.ranges.error,
      greatest_in_range own reading xs (All-tail (IsPossible own reading) x xs possible),
    )

-- the greatest error of the kept answers is that of the accepted ones
pub greatest_accepted : (frontier : Frontier) (accepted : Answers) → StandsFor frontier accepted
    → greatest_error frontier.kept ≡ greatest_error accepted
greatest_accepted frontier accepted stands =
    omega (
      arith,
      no_greater frontier.kept accepted stands.errors,
      no_greater accepted frontier.kept (λ e. sym (stands.errors e)),
    )
