-- Loops that go over a list, and make another list or an output of it.
use Rattle.std.proofs.Common.{◌≡◌, ℕ, ◌+◌, ◌<◌, ◌≤◌, List, [], ◌∷◌, ◌++◌, length, take, drop, get_or}
use Rattle.std.proofs.Common.{map, flat_map, ap, sym}
use Rattle.std.proofs.Common.{◌∙◌, append_assoc, append-nil, arith}
use Rattle.std.proofs.Math.ListN.{set}
use Rattle.std.proofs.Math.Seq.{drop-cons}
use Rattle.std.proofs.lemmas.List.{take_more, take_more_set, drop-set-lt, drop-drop, map-append, length-drop, take_all}
use Rattle.std.proofs.lemmas.Grind.{flat_map-append}

-- one more element of the list that is made
pub map_more : {A B : Type 0} (f : A → B) (xs : List A) (i : ℕ) (d : A) → i < length xs
    → map f (take (i + 1) xs) ≡ map f (take i xs) ++ f (get_or xs i d) ∷ []
map_more f xs i d below = ap (map f) (take_more xs i d below) ∙ map-append f (take i xs) (get_or xs i d ∷ [])

-- all of them
pub map_all : {A B : Type 0} (f : A → B) (xs : List A) (i : ℕ) → length xs ≤ i → map f (take i xs) ≡ map f xs
map_all f xs i le = ap (map f) (take_all i xs le)

-- one more part of the output
pub said_more : {A : Type 0} (says : A → List ℕ) (xs : List A) (i : ℕ) (d : A) → i < length xs
    → flat_map says (take (i + 1) xs) ≡ flat_map says (take i xs) ++ says (get_or xs i d)
said_more says xs i d below =
    ap (flat_map says) (take_more xs i d below) ∙ flat_map-append says (take i xs) (get_or xs i d ∷ [])
    ∙ ap (λ l. flat_map says (take i xs) ++ l) (append-nil (says (get_or xs i d)))

-- all of it
pub said_all : {A : Type 0} (says : A → List ℕ) (xs : List A) (i : ℕ) → length xs ≤ i
    → flat_map says (take i xs) ≡ flat_map says xs
said_all says xs i le = ap (flat_map says) (take_all i xs le)

-- The items from i on are as they were, and those before it are seen as what was to become of them.
pub record Passes {A B : Type 0} (seen after : A → B) (was now : List A) (i : ℕ) : Type 0 where
  pub rest : drop i now ≡ drop i was
  pub front : map seen (take i now) ≡ map after (take i was)

module _ {A B : Type 0} (seen after : A → B) (was now : List A) (i : ℕ) (d y : A) (lt : i < length now)
    (p : Passes seen after was now i) where
  pub below : i < length was
  below = omega (arith, length-drop i now, length-drop i was, ap length p.rest)

  pub same : get_or was i d ≡ get_or now i d
  same = let a = drop-cons was i d below in let b = drop-cons now i d lt in let r = p.rest in cc

  pub passes_on : seen y ≡ after (get_or now i d) → Passes seen after was (set now i y) (i + 1)
  passes_on e = record {
    rest = drop-set-lt (i + 1) now i y (omega arith) ∙ sym (drop-drop 1 i now) ∙ ap (λ l. drop 1 l) p.rest
        ∙ drop-drop 1 i was;
    front = ap (λ l. map seen l) (take_more_set now i y lt) ∙ map-append seen (take i now) (y ∷ [])
        ∙ ap (λ l. l ++ seen y ∷ []) p.front ∙ ap (λ z. map after (take i was) ++ z ∷ []) e
        ∙ ap (λ z. map after (take i was) ++ after z ∷ []) (sym same) ∙ sym (map_more after was i d below);
  }

  -- an output that grew by what this item said
  pub said_on : (says : A → List ℕ) (out0 out1 out2 : List ℕ) → out1 ≡ out0 ++ flat_map says (take i was)
      → out2 ≡ out1 ++ says (get_or now i d) → out2 ≡ out0 ++ flat_map says (take (i + 1) was)
  said_on says out0 out1 out2 e f =
      f ∙ ap (λ l. l ++ says (get_or now i d)) e
      ∙ append_assoc out0 (flat_map says (take i was)) (says (get_or now i d))
      ∙ ap (λ z. out0 ++ (flat_map says (take i was) ++ says z)) (sym same)
      ∙ ap (λ l. out0 ++ l) (sym (said_more says was i d below))

pub all_passed : {A B : Type 0} (seen after : A → B) (was now : List A) (i : ℕ) → Passes seen after was now i
    → length was ≤ i → length now ≤ i → map seen now ≡ map after was
all_passed seen after was now i p le le' =
    ap (λ l. map seen l) (sym (take_all i now le')) ∙ p.front ∙ ap (λ l. map after l) (take_all i was le)
