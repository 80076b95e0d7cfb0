-- A request.
use Rattle.std.proofs.Common.{◌≡◌, ℕ, zero, suc, ◌+◌, ◌<◌, ◌≤◌, arith, ap, sym, ◌∙◌, subst, Bool}
use Rattle.std.proofs.Common.{true, false, ◌||◌, ◌⊎◌, inl, inr, List, [], ◌∷◌, take, refl}
use Rattle.std.specs.Prelude.{map, Option, Some, None, IfSome, IsTrue, Ok}
use Rattle.std.specs.List.{list_any}
use Rattle.std.proofs.lemmas.Bool.{false≢true}
use Rattle.css_model.specs.declared.Stamp.{Stamp}
use Rattle.css_model.specs.declared.Why.TheVariants as why
use Rattle.css_model.specs.Wire.{stamp_of, reading_of, is_same_stamp, decoded, request_at}
use Rattle.css_model.specs.History.{Clock, Sent, History, sleeps, asking_at, request_by, requests, asked_originates}
use Rattle.css_model.specs.Explains.{IsJustAsked}
use Rattle.css_model.proofs.Lately.{is_same_stamp-true}
use Rattle.css_model.proofs.Requests.{reading_of-stamp_of, each_weaker}
use Rattle.css_client.specs.declared.promises.Promise.{Promise}
use Rattle.css_client.specs.Clients.{Client, NeverFall, RemembersAll, RemembersOnly}
use Rattle.css_client.specs.Standing.{StandsFor, IsBelow}
use Rattle.css_client.proofs.Rings.{take-cons_take, take-map, list_any-map}
use Rattle.css_client.proofs.Aside.{if_at}
use Rattle.css_client.proofs.Forgetting.{never_fall-later, never_fall-ring}

-- the request that was sent
request-sent : (peer reading : ℕ) (bytes : List ℕ) → decoded bytes ≡ Ok (request_at reading)
    → request_by (Sent peer bytes) ≡ Some (stamp_of reading)
request-sent peer reading bytes e = rw e refl

-- the last requests, with one more
asked_more : (n reading : ℕ) (sent : List Stamp) (asked : List ℕ) → take n sent ≡ map stamp_of asked
    → take n (stamp_of reading ∷ sent) ≡ map stamp_of (take n (reading ∷ asked))
asked_more n reading sent asked e =
    sym (take-cons_take n (stamp_of reading) sent)
    ∙ ap (λ (xs : List Stamp). take n (stamp_of reading ∷ xs)) e
    ∙ take-map stamp_of n (reading ∷ asked)

-- what is found among fewer is found among more
found_more : (test : Stamp → Bool) (n : ℕ) (sent : List Stamp) → list_any test (take n sent) ≡ true
    → list_any test (take (suc n) sent) ≡ true
found_more test zero [] e = absurd (false≢true e)
found_more test zero (x ∷ xs) e = absurd (false≢true e)
found_more test (suc n) [] e = e
found_more test (suc n) (x ∷ xs) e = pick (test x) e (found_more test n xs)
  where
    pick : (t : Bool) → (t || list_any test (take n xs)) ≡ true
        → (list_any test (take n xs) ≡ true → list_any test (take (suc n) xs) ≡ true)
        → (t || list_any test (take (suc n) xs)) ≡ true
    pick true e rest = refl
    pick false e rest = rest e

-- one of the last requests is the newest or was one before
newest_or_before : (n : ℕ) (test : Stamp → Bool) (newest : Stamp) (sent : List Stamp)
    → list_any test (take n (newest ∷ sent)) ≡ true
    → (test newest ≡ true) ⊎ (list_any test (take n sent) ≡ true)
newest_or_before zero test x xs e = absurd (false≢true e)
newest_or_before (suc n) test x xs e = by (test x) refl e
  where
    by : (t : Bool) → test x ≡ t → (t || list_any test (take n xs)) ≡ true
        → (test x ≡ true) ⊎ (list_any test (take (suc n) xs) ≡ true)
    by true p e = inl p
    by false p e = inr (found_more test n xs e)

-- a request that may be answered from now on was one before, or may still be made
current_before : (floor reading n : ℕ) (originate : Stamp) (sent : List Stamp) → floor ≤ reading
    → (list_any (λ asked. is_same_stamp asked originate) (take n (stamp_of reading ∷ sent)) ≡ true)
    ⊎ (reading ≤ reading_of originate)
    → (list_any (λ asked. is_same_stamp asked originate) (take n sent) ≡ true) ⊎ (floor ≤ reading_of originate)
current_before floor reading n o sent less (inr later) = inr (omega arith)
current_before floor reading n o sent less (inl found) =
    elim (newest_or_before n (λ asked. is_same_stamp asked o) (stamp_of reading) sent found) [
      | inl same ↦ inr
          (omega (arith, reading_of-stamp_of reading, ap reading_of (is_same_stamp-true (stamp_of reading) o same)))
      | inr before ↦ inl before
    ]

-- the client after a request
abbrev pub after_request : Client → ℕ → List Promise → Client
after_request client reading promises = record {
  asked = take 64 (reading ∷ client.asked);
  promises = promises;
  estimate = client.estimate;
  floor = reading;
  after_sleep = reading + 1;
}

-- the client after a request stands for the history with it
pub stands_asked : (client : Client) (history : History) (peer reading : ℕ) (bytes : List ℕ) (promises : List Promise)
    → StandsFor client history → client.floor ≤ reading → client.after_sleep ≤ suc client.floor
    → decoded bytes ≡ Ok (request_at reading)
    → (NeverFall (reading ∷ client.asked)
    → RemembersAll reading (take 64 (reading ∷ client.asked)) client.promises promises)
    → (NeverFall (reading ∷ client.asked) → RemembersOnly client.asked client.promises
    → RemembersOnly (take 64 (reading ∷ client.asked)) promises)
    → StandsFor (after_request client reading promises) (Sent peer bytes ∷ Clock why.Ask reading ∷ history)
stands_asked client history peer reading bytes promises stands less later sent remembers only =
    let never_fall : NeverFall (reading ∷ client.asked) =
    never_fall-later client.floor reading client.asked less stands.rising in
    let is_request : request_by (Sent peer bytes) ≡ Some (stamp_of reading) = request-sent peer reading bytes sent in
    let same_requests : requests (Sent peer bytes ∷ Clock why.Ask reading ∷ history)
    ≡ stamp_of reading ∷ requests history = rw is_request refl in
    let asked : asked_originates (Sent peer bytes ∷ Clock why.Ask reading ∷ history)
    ≡ map stamp_of (take 64 (reading ∷ client.asked)) =
    ap (λ (rs : List Stamp). take 64 rs) same_requests
    ∙ asked_more 64 reading (requests history) client.asked stands.asked in
    record {
      lawful = record {
        rises = (
          tt,
          (
            each_weaker (IsBelow client (sleeps history)) (λ earlier before. IfSome (asking_at earlier)
                (λ asked. sleeps before < sleeps history → asked < reading))
                (λ earlier before below. rising (asking_at earlier) (sleeps before) below) history stands.below,
            stands.lawful.rises,
          ),
        );
        asks = (
          if_at (λ (originate : Stamp). IsJustAsked originate (Clock why.Ask reading ∷ history))
              (request_by (Sent peer bytes)) (stamp_of reading) is_request
              (record { reading = reading; before = history; just_before = refl; same = refl }),
          (tt, stands.lawful.asks),
        );
      };
      asked = asked;
      promises = λ follow_up current.
          let o = follow_up.originate in
          let by_reading : list_any
          (λ s. is_same_stamp s o) (asked_originates (Sent peer bytes ∷ Clock why.Ask reading ∷ history))
          ≡ list_any (λ r. is_same_stamp (stamp_of r) o) (take 64 (reading ∷ client.asked)) =
          ap (λ (rs : List Stamp). list_any (λ s. is_same_stamp s o) rs) asked
          ∙ list_any-map (λ s. is_same_stamp s o) stamp_of (take 64 (reading ∷ client.asked)) in
          remembers never_fall o follow_up.receive
          (subst (λ (t : Bool). IsTrue t ⊎ (reading ≤ reading_of o)) by_reading current)
          ∙ stands.promises follow_up (current_before client.floor reading 64 o (requests history) less
          (subst (λ (rs : List Stamp). IsTrue (list_any (λ s. is_same_stamp s o) (take 64 rs))
          ⊎ (reading ≤ reading_of o)) same_requests current));
      only = only never_fall stands.only;
      rising = never_fall-ring 64 reading client.asked never_fall;
      estimate = stands.estimate;
      below = (
        tt,
        (
          (omega arith, λ h. absurd (omega arith)),
          each_weaker (IsBelow client (sleeps history))
              (IsBelow (after_request client reading promises) (sleeps history))
              (λ earlier before below. raised (asking_at earlier) (sleeps before) below) history stands.below,
        ),
      );
    }
  where
    rising : (o : Option ℕ) (slept : ℕ)
        → IfSome o (λ asked. (asked < client.after_sleep) × (slept < sleeps history → asked < client.floor))
        → IfSome o (λ asked. slept < sleeps history → asked < reading)
    rising None slept h = tt
    rising (Some asked) slept h = λ before. omega (arith, h.1 before)

    raised : (o : Option ℕ) (slept : ℕ)
        → IfSome o (λ asked. (asked < client.after_sleep) × (slept < sleeps history → asked < client.floor))
        → IfSome o (λ asked. (asked < reading + 1) × (slept < sleeps history → asked < reading))
    raised None slept h = tt
    raised (Some asked) slept h = (omega (arith, h.0), λ before. omega (arith, h.1 before))
