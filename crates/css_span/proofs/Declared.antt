-- Laws of the errors that answers declare, and of answers that are among others.
use Rattle.std.proofs.Common.{◌≡◌, ◌≢◌, ℕ, ap, sym, ◌∙◌, refl, Bool, true, false, inl, inr, [], ◌∷◌, ◌++◌}
use Rattle.std.specs.Prelude.{◌==◌, ◌||◌, reverse, All}
use Rattle.std.proofs.lemmas.Bool.{eqb-true, eqb-false, eq-eqb, ne_eqb, or_parts, or_from}
use Rattle.std.proofs.lemmas.List.{reverse-append}
use Rattle.std.proofs.lemmas.List.Elements.{All-head, All-tail}
use Rattle.css_model.specs.WallClock.{Answer}
use Rattle.css_span.specs.Frontiers.{Answers, declares, DeclareDifferent, AreAmong}

or_swap : (p q r : Bool) → (p || (q || r)) ≡ (q || (p || r))
or_swap true true r = refl
or_swap true false r = refl
or_swap false true r = refl
or_swap false false r = refl

or_assoc : (p q r : Bool) → ((p || q) || r) ≡ (p || (q || r))
or_assoc true q r = refl
or_assoc false q r = refl

-- ---- which errors are declared
pub declares-append : (e : ℕ) (xs ys : Answers) → declares e (xs ++ ys) ≡ (declares e xs || declares e ys)
declares-append e [] ys = refl
declares-append e (x ∷ xs) ys =
    ap (λ t. (x.error == e) || t) (declares-append e xs ys) ∙ sym
    (or_assoc (x.error == e) (declares e xs) (declares e ys))

pub declares-middle : (e : ℕ) (newer older : Answers) (a : Answer)
    → declares e (newer ++ a ∷ older) ≡ ((a.error == e) || declares e (newer ++ older))
declares-middle e [] older a = refl
declares-middle e (c ∷ newer) older a =
    ap (λ t. (c.error == e) || t) (declares-middle e newer older a) ∙ or_swap (c.error == e) (a.error == e)
    (declares e (newer ++ older))

-- an answer in the list declares its error
pub declares_itself : (e : ℕ) (newer older : Answers) (a : Answer) → a.error ≡ e
    → declares e (newer ++ a ∷ older) ≡ true
declares_itself e newer older a same =
    declares-middle e newer older a ∙ ap (λ t. t || declares e (newer ++ older)) (eq-eqb a.error e same)

-- an answer more, of an error that is declared already, declares nothing new
pub declares_already : (e f : ℕ) (xs : Answers) → declares f xs ≡ true → ((f == e) || declares e xs) ≡ declares e xs
declares_already e f xs h = by (f == e) refl
  where
    by : (t : Bool) → (f == e) ≡ t → ((f == e) || declares e xs) ≡ declares e xs
    by true g = let same : e ≡ f = sym (eqb-true f e g) in rw (g, same, h) refl
    by false g = rw g refl

pub declares_none : (xs : Answers) (e : ℕ) → All (λ a. a.error ≢ e) xs → declares e (reverse xs) ≡ false
declares_none [] e h = refl
declares_none (x ∷ xs) e h =
    let here : (x.error == e) ≡ false = ne_eqb x.error e (All-head (λ (a : Answer). a.error ≢ e) x xs h) in
    let rest : declares e (reverse xs) ≡ false = declares_none xs e (All-tail (λ (a : Answer). a.error ≢ e) x xs h) in
    let turned : declares e (reverse (x ∷ xs)) ≡ (declares e (reverse xs) || declares e (x ∷ [])) =
    ap (declares e) (reverse-append (x ∷ []) xs) ∙ declares-append e (reverse xs) (x ∷ []) in
    turned ∙ or_from (declares e (reverse xs)) (declares e (x ∷ [])) rest (or_from (x.error == e) false here refl)

-- ---- each error once
pub different-middle : (newer older : Answers) (a : Answer) → DeclareDifferent (newer ++ a ∷ older)
    → DeclareDifferent (a ∷ newer ++ older)
different-middle [] older a h = h
different-middle (c ∷ newer) older a h =
    let ih : DeclareDifferent (a ∷ newer ++ older) = different-middle newer older a h.1 in
    let parts =
    or_parts (a.error == c.error) (declares c.error (newer ++ older))
    (sym (declares-middle c.error newer older a) ∙ h.0) in
    let other : (c.error == a.error) ≡ false =
    ne_eqb c.error a.error (λ same. eqb-false a.error c.error parts.0 (sym same)) in
    (or_from (c.error == a.error) (declares a.error (newer ++ older)) other ih.0, (parts.1, ih.1))

-- ---- the kept answers are among the accepted ones
pub among-skipped : (xs ys : Answers) (y : Answer) → AreAmong xs ys → AreAmong xs (y ∷ ys)
among-skipped [] ys y h = tt
among-skipped (x ∷ xs) ys y h = inr h

pub among-dropped : (newer older ys : Answers) (a : Answer) → AreAmong (newer ++ a ∷ older) ys
    → AreAmong (newer ++ older) ys
among-dropped [] older [] a h = absurd h
among-dropped [] older (y ∷ ys) a h =
    elim h [ inl p ↦ among-skipped older ys y p.1 | inr q ↦ among-skipped older ys y (among-dropped [] older ys a q) ]
among-dropped (c ∷ newer) older [] a h = absurd h
among-dropped (c ∷ newer) older (y ∷ ys) a h =
    elim h [
      | inl p ↦ inl (p.0, among-dropped newer older ys a p.1)
      | inr q ↦
          inr (among-dropped (c ∷ newer) older ys a q)
    ]
