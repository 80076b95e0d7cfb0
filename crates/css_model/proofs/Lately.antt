-- Where what a companion goes by comes from: an entry since its last sleep.
use Rattle.std.proofs.Common.{◌≡◌, ℕ, zero, suc, ◌+◌, ◌<◌, ◌≤◌, ◌⊎◌, inl, inr, arith, ap, sym, ◌∙◌, Bool, true, false}
use Rattle.std.proofs.Common.{cond, ◌||◌, List, [], ◌∷◌, ◌++◌, length, take, refl}
use Rattle.std.specs.Prelude.{ℤ, int_lt, Option, Some, None, ◌==◌}
use Rattle.std.specs.List.{list_any}
use Rattle.std.specs.Option.{option_or, option_to_list}
use Rattle.std.proofs.lemmas.Bool.{false≢true, and_parts, eqb-true}
use Rattle.css_model.specs.declared.Stamp.{Stamp}
use Rattle.css_model.specs.declared.Message.{Message}
use Rattle.css_model.specs.WallClock.{Answer, Local, lesser, least_by}
use Rattle.css_model.specs.Wire.{is_same_stamp}
use Rattle.css_model.specs.History.{Entry, History, Each, is_sleep, sleeps, request_by, requests, is_asked}
use Rattle.css_model.specs.History.{LandedAnswer, landed_answer, landed_answers, is_promise_of, first_promised_at}
use Rattle.css_model.specs.History.{times_of, is_possible, possible_answers}

-- ---- membership
-- a is one of the items
abbrev pub IsIn : {A : Type 0} → A → List A → Type 0
IsIn a [] = ⊥
IsIn a (x ∷ xs) = (a ≡ x) ⊎ IsIn a xs

-- the lesser of two is one of them
lesser-in : {A : Type 0} (f : A → ℤ) (x a : A) (o : Option A) → lesser f x o ≡ Some a → (a ≡ x) ⊎ (o ≡ Some a)
lesser-in f x a None e = inl (cc)
lesser-in f x a (Some y) e = by (int_lt (f x) (f y)) e
  where
    by : (t : Bool) → cond t (Some x) (Some y) ≡ Some a → (a ≡ x) ⊎ (Some y ≡ Some a)
    by true e = inl (cc)
    by false e = inr e

-- the least item is one of them
pub least_by-in : {A : Type 0} (f : A → ℤ) (xs : List A) (a : A) → least_by f xs ≡ Some a → IsIn a xs
least_by-in f [] a e = absurd (cc)
least_by-in f (x ∷ older) a e = elim (lesser-in f x a (least_by f older) e) [
  | inl p ↦ inl p
  | inr q ↦ inr
      (least_by-in f older a q)
]

-- ---- entries since the last sleep
-- P holds of some entry since the last sleep and of what came before it
abbrev pub Lately : (Entry → History → Type 0) → History → Type 0
Lately P [] = ⊥
Lately P (entry ∷ older) = (is_sleep entry ≡ false) × (P entry older ⊎ Lately P older)

-- some entry since the last sleep, what came before it, what P says of these two, and what Q says of each entry up to
-- it
pub record Found (P Q : Entry → History → Type 0) (history : History) : Type 0 where
  pub entry : Entry
  pub older : History
  pub holds : P entry older
  pub each : Each Q (entry ∷ older)
  pub awake : sleeps older ≡ sleeps history
  pub before : length older < length history

-- an entry that is no sleep leaves the number of sleeps
pub sleeps-awake : (entry : Entry) (older : History) → is_sleep entry ≡ false → sleeps (entry ∷ older) ≡ sleeps older
sleeps-awake entry older e = rw e refl

-- the number of sleeps doesn't fall
pub sleeps-le : (entry : Entry) (older : History) → sleeps older ≤ sleeps (entry ∷ older)
sleeps-le entry older = by (is_sleep entry)
  where
    by : (t : Bool) → sleeps older ≤ cond t (sleeps older + 1) (sleeps older)
    by true = omega arith
    by false = omega arith

-- what holds lately, with what holds of each entry
pub found : (P Q : Entry → History → Type 0) (history : History) → Lately P history → Each Q history → Found P Q history
found P Q [] p q = absurd p
found P Q (entry ∷ older) (awake, inl p) q = record {
  entry = entry;
  older = older;
  holds = p;
  each = q;
  awake = sym (sleeps-awake entry older awake);
  before = omega arith;
}
found P Q (entry ∷ older) (awake, inr p) q =
    let f : Found P Q older = found P Q older p q.1 in
    record {
      entry = f.entry;
      older = f.older;
      holds = f.holds;
      each = f.each;
      awake = f.awake ∙ sym (sleeps-awake entry older awake);
      before = omega arith;
    }

-- ---- what was accepted landed
-- an answer that landed with this entry, was possible, and has these times
abbrev pub LandedAs : Local → Answer → Entry → History → Type 0
LandedAs own a entry older =
    (x : LandedAnswer) × (landed_answer entry older ≡ Some x) × (is_possible own x (landed_answers older) ≡ true)
    × (a ≡ times_of x (landed_answers older))

-- an accepted answer landed since the last sleep
pub possible_answers-lately : (own : Local) (a : Answer) (history : History)
    → IsIn a (possible_answers own (landed_answers history)) → Lately (LandedAs own a) history
possible_answers-lately own a [] h = absurd h
possible_answers-lately own a (entry ∷ older) h =
    by (possible_answers-lately own a older) (is_sleep entry) refl (landed_answer entry older) refl h
  where
    pick : (x : LandedAnswer) → (IsIn a (possible_answers own (landed_answers older)) → Lately (LandedAs own a) older)
        → is_sleep entry ≡ false → landed_answer entry older ≡ Some x
        → (s : Bool) → is_possible own x (landed_answers older) ≡ s
        → IsIn a (option_to_list (cond s (Some (times_of x (landed_answers older))) None)
        ++ possible_answers own (landed_answers older))
        → Lately (LandedAs own a) (entry ∷ older)
    pick x rest awake e true q (inl p) = (awake, inl (x, e, q, p))
    pick x rest awake e true q (inr r) = (awake, inr (rest r))
    pick x rest awake e false q r = (awake, inr (rest r))

    by : (IsIn a (possible_answers own (landed_answers older)) → Lately (LandedAs own a) older)
        → (t : Bool) → is_sleep entry ≡ t → (o : Option LandedAnswer) → landed_answer entry older ≡ o
        → IsIn a (possible_answers own (cond t [] (option_to_list o ++ landed_answers older)))
        → Lately (LandedAs own a) (entry ∷ older)
    by rest true awake o e h = absurd h
    by rest false awake None e h = (awake, inr (rest h))
    by rest false awake (Some x) e h = pick x rest awake e (is_possible own x (landed_answers older)) refl h

-- ---- the response that promised a follow-up landed
-- a response that promised the follow-up landed with this entry at reading r
abbrev pub PromisedAt : Message → ℕ → Entry → History → Type 0
PromisedAt follow_up r entry older =
    (y : LandedAnswer) × (landed_answer entry older ≡ Some y) × (is_promise_of y follow_up ≡ true) × (y.reading ≡ r)

-- the response by which a follow-up is timed landed since the last sleep
pub first_promised_at-lately : (follow_up : Message) (r : ℕ) (history : History)
    → first_promised_at follow_up (landed_answers history) ≡ Some r → Lately (PromisedAt follow_up r) history
first_promised_at-lately m r [] e = absurd (cc)
first_promised_at-lately m r (entry ∷ older) h =
    by (first_promised_at-lately m r older) (is_sleep entry) refl (landed_answer entry older) refl h
  where
    pick : (x : LandedAnswer) → is_sleep entry ≡ false → landed_answer entry older ≡ Some x
        → (s : Bool) → is_promise_of x m ≡ s → (o : Option ℕ) → (o ≡ Some r → Lately (PromisedAt m r) older)
        → option_or o (cond s (Some x.reading) None) ≡ Some r → Lately (PromisedAt m r) (entry ∷ older)
    pick x awake e s p (Some earlier) rest h = (awake, inr (rest h))
    pick x awake e true p None rest h = (awake, inl (x, e, p, cc))
    pick x awake e false p None rest h = absurd (cc)

    by : (first_promised_at m (landed_answers older) ≡ Some r → Lately (PromisedAt m r) older)
        → (t : Bool) → is_sleep entry ≡ t → (o : Option LandedAnswer) → landed_answer entry older ≡ o
        → first_promised_at m (cond t [] (option_to_list o ++ landed_answers older)) ≡ Some r
        → Lately (PromisedAt m r) (entry ∷ older)
    by rest true awake o e h = absurd (cc)
    by rest false awake None e h = (awake, inr (rest h))
    by rest false awake (Some x) e h =
        pick x awake e (is_promise_of x m) refl (first_promised_at m (landed_answers older)) rest h

-- ---- what is asked was sent
-- equal fields make equal stamps
stamp-eta : (s o : Stamp) → s.seconds ≡ o.seconds → s.nanoseconds ≡ o.nanoseconds → s ≡ o
stamp-eta s o p q =
    let f : ℕ → Stamp = λ n. record { seconds = n; nanoseconds = s.nanoseconds } in
    let g : ℕ → Stamp = λ n. record { seconds = o.seconds; nanoseconds = n } in
    ap f p ∙ ap g q

-- stamps that test as the same are equal
pub is_same_stamp-true : (s o : Stamp) → is_same_stamp s o ≡ true → s ≡ o
is_same_stamp-true s o e =
    let p = and_parts (s.seconds == o.seconds) (s.nanoseconds == o.nanoseconds) e in
    stamp-eta s o (eqb-true s.seconds o.seconds p.0) (eqb-true s.nanoseconds o.nanoseconds p.1)

-- what is found in a prefix is found in the list
list_any-take : {A : Type 0} (p : A → Bool) (k : ℕ) (xs : List A) → list_any p (take k xs) ≡ true → list_any p xs ≡ true
list_any-take p zero [] e = absurd (false≢true e)
list_any-take p zero (x ∷ xs) e = absurd (false≢true e)
list_any-take p (suc k) [] e = absurd (false≢true e)
list_any-take p (suc k) (x ∷ xs) e = by (p x) e (list_any-take p k xs)
  where
    by : (t : Bool) → (t || list_any p (take k xs)) ≡ true → (list_any p (take k xs) ≡ true → list_any p xs ≡ true)
        → (t || list_any p xs) ≡ true
    by true e rest = refl
    by false e rest = rest e

-- the entry sent a request with this originate value
abbrev pub Requests : Stamp → Entry → History → Type 0
Requests originate entry older = request_by entry ≡ Some originate

-- what is among the requests was sent since the last sleep
requests-lately : (originate : Stamp) (history : History)
    → list_any (λ s. is_same_stamp s originate) (requests history) ≡ true → Lately (Requests originate) history
requests-lately originate [] e = absurd (false≢true e)
requests-lately originate (entry ∷ older) e =
    by (requests-lately originate older) (is_sleep entry) refl (request_by entry) refl e
  where
    pick : (list_any (λ s. is_same_stamp s originate) (requests older) ≡ true → Lately (Requests originate) older)
        → is_sleep entry ≡ false → (s : Stamp) → request_by entry ≡ Some s
        → (t : Bool) → is_same_stamp s originate ≡ t
        → (t || list_any (λ s. is_same_stamp s originate) (requests older)) ≡ true
        → Lately (Requests originate) (entry ∷ older)
    pick rest awake s q true e h = (awake, inl (q ∙ ap (λ (o : Stamp). Some o) (is_same_stamp-true s originate e)))
    pick rest awake s q false e h = (awake, inr (rest h))

    by : (list_any (λ s. is_same_stamp s originate) (requests older) ≡ true → Lately (Requests originate) older)
        → (t : Bool) → is_sleep entry ≡ t → (o : Option Stamp) → request_by entry ≡ o
        → list_any (λ s. is_same_stamp s originate) (cond t [] (option_to_list o ++ requests older)) ≡ true
        → Lately (Requests originate) (entry ∷ older)
    by rest true awake o q h = absurd (false≢true h)
    by rest false awake None q h = (awake, inr (rest h))
    by rest false awake (Some s) q h = pick rest awake s q (is_same_stamp s originate) refl h

-- what is asked was sent since the last sleep
pub is_asked-lately : (originate : Stamp) (history : History) → is_asked originate history ≡ true
    → Lately (Requests originate) history
is_asked-lately originate history e = requests-lately originate history (list_any-take
    (λ s. is_same_stamp s originate) 64 (requests history) e)
