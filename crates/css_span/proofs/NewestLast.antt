-- Answers in a list whose newest is the last, seen with the newest first.
use Rattle.std.proofs.Common.{◌≡◌, ℕ, suc, ◌<◌, arith, ap, sym, ◌∙◌, List, [], ◌∷◌, ◌++◌, length, take, drop, get_or}
use Rattle.std.proofs.Common.{append_assoc}
use Rattle.std.specs.Prelude.{reverse}
use Rattle.std.specs.List.{remove}
use Rattle.std.proofs.lemmas.List.{take-append-drop, reverse-append, take-append-le, drop-append-le}
use Rattle.std.proofs.Math.Seq.{drop-cons}
use Rattle.css_model.specs.WallClock.{Answer}

-- the answers that came after the one at place i, and those that came before it
pub newer_than : ℕ → List Answer → List Answer
newer_than i xs = reverse (drop (suc i) xs)

pub older_than : ℕ → List Answer → List Answer
older_than i xs = reverse (take i xs)

pub reverse-about : (xs : List Answer) (i : ℕ) (a : Answer) → i < length xs → a ≡ get_or xs i a
    → reverse xs ≡ newer_than i xs ++ a ∷ older_than i xs
unfolding newer_than older_than
reverse-about xs i a h e =
    let split : xs ≡ take i xs ++ a ∷ drop (suc i) xs =
    sym (take-append-drop i xs) ∙ ap (λ ys. take i xs ++ ys)
    (drop-cons xs i a h ∙ ap (λ b. b ∷ drop (suc i) xs) (sym e)) in
    ap reverse split ∙ reverse-append (take i xs) (a ∷ drop (suc i) xs) ∙ ap (λ ys. ys ++ reverse (take i xs))
    (reverse-append (a ∷ []) (drop (suc i) xs)) ∙ append_assoc (reverse (drop (suc i) xs)) (a ∷ [])
    (reverse (take i xs))

pub reverse-push : (xs : List Answer) (b : Answer) → reverse (xs ++ b ∷ []) ≡ b ∷ reverse xs
reverse-push xs b = reverse-append xs (b ∷ [])

-- after a push, the one at place i is taken out
pub reverse-push_remove : (xs : List Answer) (i : ℕ) (b : Answer) → i < length xs
    → reverse (remove (xs ++ b ∷ []) i) ≡ b ∷ newer_than i xs ++ older_than i xs
unfolding newer_than older_than
reverse-push_remove xs i b h =
    let removed : remove (xs ++ b ∷ []) i ≡ take i xs ++ (drop (suc i) xs ++ b ∷ []) =
    ap (λ ys. ys ++ drop (suc i) (xs ++ b ∷ [])) (take-append-le i xs (b ∷ []) (omega arith)) ∙ ap (λ ys. take i xs
    ++ ys) (drop-append-le (suc i) xs (b ∷ []) (omega arith)) in
    ap reverse removed ∙ reverse-append (take i xs) (drop (suc i) xs ++ b ∷ []) ∙ ap (λ ys. ys ++ reverse (take i xs))
    (reverse-append (drop (suc i) xs) (b ∷ []))
