-- As many different errors are declared by two lists that declare the same ones.
use Rattle.std.proofs.Common.{◌≡◌, ℕ, suc, ap, sym, ◌∙◌, refl, Bool, true, false, [], ◌∷◌, length}
use Rattle.std.specs.Prelude.{◌==◌, ◌||◌, if◌then◌else◌}
use Rattle.std.proofs.lemmas.Bool.{false≢true, eqb-true, eqb-false, eq-eqb, ne_eqb, or_left}
use Rattle.css_span.proofs.Declared.{declares_already}
use Rattle.css_span.specs.Frontiers.{Answers, Frontier, StandsFor, declares, error_count, DeclareDifferent}

-- the answers that don't declare the error
without : ℕ → Answers → Answers
without e [] = []
without e (x ∷ xs) = if x.error == e then without e xs else x ∷ without e xs

declares-without_itself : (e : ℕ) (xs : Answers) → declares e (without e xs) ≡ false
unfolding without
declares-without_itself e [] = refl
declares-without_itself e (x ∷ xs) = by (declares-without_itself e xs) (x.error == e) refl
  where
    by : declares e (without e xs) ≡ false → (t : Bool) → (x.error == e) ≡ t → declares e (without e (x ∷ xs)) ≡ false
    by ih true g = rw g ih
    by ih false g = rw (g, g) ih

declares-without : (d e : ℕ) (xs : Answers) → (e == d) ≡ false → declares d (without e xs) ≡ declares d xs
unfolding without
declares-without d e [] h = refl
declares-without d e (x ∷ xs) h = by (declares-without d e xs h) (x.error == e) refl
  where
    by : declares d (without e xs) ≡ declares d xs → (t : Bool) → (x.error == e) ≡ t
        → declares d (without e (x ∷ xs)) ≡ declares d (x ∷ xs)
    by ih true g = let other : (x.error == d) ≡ false = ap (λ (n : ℕ). n == d) (eqb-true x.error e g) ∙ h in
        rw (g, other) ih
    by ih false g = rw g (ap (λ t. (x.error == d) || t) ih)

-- one error is declared or not, and the others are counted without it
abbrev counted : Bool → ℕ → ℕ
counted t n = if t then suc n else n

error_count-without : (e : ℕ) (xs : Answers) → error_count xs ≡ counted (declares e xs) (error_count (without e xs))
unfolding without
error_count-without e [] = refl
error_count-without e (x ∷ xs) = by (error_count-without e xs) (x.error == e) refl
  where
    same_error : error_count xs ≡ counted (declares e xs) (error_count (without e xs)) → (t : Bool) → declares e xs ≡ t
        → (if declares e xs then error_count xs else suc (error_count xs)) ≡ suc (error_count (without e xs))
    same_error ih true g = rw g (ih ∙ ap (λ t. counted t (error_count (without e xs))) g)
    same_error ih false g = rw g (ap suc (ih ∙ ap (λ t. counted t (error_count (without e xs))) g))

    other_error : error_count xs ≡ counted (declares e xs) (error_count (without e xs)) → (s t : Bool)
        → declares x.error xs ≡ s → declares e xs ≡ t
        → (if declares x.error xs then error_count xs else suc (error_count xs)) ≡ counted (declares e xs)
        (if declares x.error xs then error_count (without e xs) else suc (error_count (without e xs)))
    other_error ih true true f g = rw (f, g) (ih ∙ ap (λ t. counted t (error_count (without e xs))) g)
    other_error ih true false f g = rw (f, g) (ih ∙ ap (λ t. counted t (error_count (without e xs))) g)
    other_error ih false true f g = rw (f, g) (ap suc (ih ∙ ap (λ t. counted t (error_count (without e xs))) g))
    other_error ih false false f g = rw (f, g) (ap suc (ih ∙ ap (λ t. counted t (error_count (without e xs))) g))

    by : error_count xs ≡ counted (declares e xs) (error_count (without e xs)) → (t : Bool) → (x.error == e) ≡ t
        → error_count (x ∷ xs) ≡ counted (declares e (x ∷ xs)) (error_count (without e (x ∷ xs)))
    by ih true g = rw (g, eqb-true x.error e g) (same_error ih (declares e xs) refl)
    by ih false g =
        let apart : (e == x.error) ≡ false = ne_eqb e x.error (λ same. eqb-false x.error e g (sym same)) in
        rw (g, declares-without x.error e xs apart) (other_error ih (declares x.error xs) (declares e xs) refl refl)

none_declared : (ys : Answers) → ((e : ℕ) → false ≡ declares e ys) → error_count ys ≡ 0
none_declared [] h = refl
none_declared (y ∷ ys) h =
    absurd (false≢true (h y.error ∙ or_left (y.error == y.error) (declares y.error ys) (eq-eqb y.error y.error refl)))

error_count-same : (xs ys : Answers) → ((e : ℕ) → declares e xs ≡ declares e ys) → error_count xs ≡ error_count ys
error_count-same [] ys h = sym (none_declared ys h)
error_count-same (x ∷ xs) ys h = by (error_count-same xs) (declares x.error xs) refl
  where
    others : declares x.error xs ≡ false → (e : ℕ) (t : Bool) → (x.error == e) ≡ t
        → declares e xs ≡ declares e (without x.error ys)
    others g e true f =
        let same : x.error ≡ e = eqb-true x.error e f in
        ap (λ n. declares n xs) (sym same) ∙ g ∙ sym (declares-without_itself x.error ys) ∙ ap (λ n.
        declares n (without x.error ys)) same
    others g e false f = sym (ap (λ t. t || declares e xs) f) ∙ h e ∙ sym (declares-without e x.error ys f)

    by : ((zs : Answers) → ((e : ℕ) → declares e xs ≡ declares e zs) → error_count xs ≡ error_count zs) → (t : Bool)
        → declares x.error xs ≡ t → error_count (x ∷ xs) ≡ error_count ys
    by ih true g = rw g (ih ys (λ e. sym (declares_already e x.error xs g) ∙ h e))
    by ih false g =
        let here : declares x.error ys ≡ true =
        sym (h x.error) ∙ or_left (x.error == x.error) (declares x.error xs) (eq-eqb x.error x.error refl) in
        let rest : (e : ℕ) → declares e xs ≡ declares e (without x.error ys) = λ e. others g e (x.error == e) refl in
        rw g (ap suc (ih (without x.error ys) rest)) ∙ sym
        (error_count-without x.error ys ∙ ap (λ t. counted t (error_count (without x.error ys))) here)

error_count-different : (xs : Answers) → DeclareDifferent xs → error_count xs ≡ length xs
error_count-different [] h = refl
error_count-different (x ∷ xs) h = rw h.0 (ap suc (error_count-different xs h.1))

-- as many answers are kept as there are different errors among the accepted ones
pub length-kept : (frontier : Frontier) (accepted : Answers) → StandsFor frontier accepted
    → length frontier.kept ≡ error_count accepted
length-kept frontier accepted stands =
    sym (error_count-different frontier.kept stands.different) ∙ error_count-same frontier.kept accepted stands.errors
