-- What a client need not be told leaves what it stands for.
use Rattle.std.proofs.Common.{◌≡◌, ℕ, ◌<◌, ◌≤◌, ap, sym, ◌∙◌, subst, false, ◌⊎◌, List, ◌∷◌, take, refl}
use Rattle.std.specs.Prelude.{Option, Some, None, IfSome, IsTrue}
use Rattle.std.specs.List.{list_any}
use Rattle.css_model.specs.declared.Stamp.{Stamp}
use Rattle.css_model.specs.Wire.{reading_of, is_same_stamp}
use Rattle.css_model.specs.History.{Entry, History, Each, is_sleep, sleeps, asking_at, request_by, requests}
use Rattle.css_model.specs.History.{LandedAnswer, landed_answer, landed_answers, first_promised_at, possible_answers}
use Rattle.css_model.specs.Explains.{IsJustAsked}
use Rattle.css_model.proofs.Lately.{sleeps-awake}
use Rattle.css_span.specs.Frontiers as frontiers
use Rattle.css_client.specs.Clients.{local_of}
use Rattle.css_client.specs.Standing.{IsBelow, StandsAside}

-- nothing is said of what isn't there
pub if_none : {A : Type 0} (P : A → Type 0) (o : Option A) → o ≡ None → IfSome o P
if_none P None e = tt
if_none P (Some x) e = absurd (cc)

-- what is said of what is there
pub if_at : {A : Type 0} (P : A → Type 0) (o : Option A) (x : A) → o ≡ Some x → P x → IfSome o P
if_at {A = A} P o x e p = subst (λ (q : Option A). IfSome q P) (sym e) p

-- an entry that is no request leaves the requests
requests-aside : (entry : Entry) (older : History) → is_sleep entry ≡ false → request_by entry ≡ None
    → requests (entry ∷ older) ≡ requests older
requests-aside entry older e f = rw (e, f) refl

-- and one with which no answer lands leaves the answers
pub landed-aside : (entry : Entry) (older : History) → is_sleep entry ≡ false → landed_answer entry older ≡ None
    → landed_answers (entry ∷ older) ≡ landed_answers older
landed-aside entry older e f = rw (e, f) refl

-- so the client stands for the history with such an entry too
pub stands_aside : StandsAside
stands_aside client history entry stands a =
    let same_requests : requests (entry ∷ history) ≡ requests history =
    requests-aside entry history a.awake a.sends_none in
    let same_landed : landed_answers (entry ∷ history) ≡ landed_answers history =
    landed-aside entry history a.awake a.lands_none in
    record {
      lawful = record {
        rises = (
          if_none (λ (reading : ℕ). Each (λ earlier before. IfSome (asking_at earlier)
              (λ asked. sleeps before < sleeps history → asked < reading)) history) (asking_at entry) a.asks_none,
          stands.lawful.rises,
        );
        asks = (
          if_none (λ (originate : Stamp). IsJustAsked originate history) (request_by entry) a.sends_none,
          stands.lawful.asks,
        );
      };
      asked = ap (λ (rs : List Stamp). take 64 rs) same_requests ∙ stands.asked;
      promises = λ follow_up current.
          stands.promises follow_up
          (subst (λ (rs : List Stamp). IsTrue (list_any (λ asked. is_same_stamp asked follow_up.originate) (take 64 rs))
          ⊎ (client.floor ≤ reading_of follow_up.originate)) same_requests current)
          ∙ ap (λ (ls : List LandedAnswer). first_promised_at follow_up ls) (sym same_landed);
      only = stands.only;
      rising = stands.rising;
      estimate = subst (λ (ls : List LandedAnswer). frontiers.StandsFor client.estimate
          (possible_answers (local_of client) ls)) (sym same_landed) stands.estimate;
      below = (
        if_none (λ (asked : ℕ). (asked < client.after_sleep)
            × (sleeps history < sleeps (entry ∷ history) → asked < client.floor)) (asking_at entry) a.asks_none,
        subst (λ (n : ℕ). Each (IsBelow client n) history) (sym (sleeps-awake entry history a.awake)) stands.below,
      );
    }
