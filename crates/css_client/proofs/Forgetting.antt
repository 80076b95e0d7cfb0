-- What is forgotten with a request.
use Rattle.std.proofs.Common.{◌≡◌, ℕ, zero, suc, ◌<◌, ◌≤◌, arith, ap, sym, ◌∙◌, subst, Bool, true}
use Rattle.std.proofs.Common.{false, cond, ◌||◌, ◌&&◌, ◌⊎◌, inl, inr, List, [], ◌∷◌, take, refl}
use Rattle.std.specs.Prelude.{not, nat_lt, Some, None, All, IsTrue}
use Rattle.std.specs.List.{filter, last_or}
use Rattle.std.proofs.lemmas.Bool.{false≢true, ltb-true, ltb-false}
use Rattle.std.proofs.lemmas.Bool.Decides.{eqb_tells}
use Rattle.std.proofs.lemmas.List.Elements.{All-nil, All-head, All-tail, All-cons, All-weaker}
use Rattle.css_model.specs.declared.Stamp.{Stamp}
use Rattle.css_model.specs.declared.Message.{Message}
use Rattle.css_model.specs.Wire.{stamp_of, reading_of, is_same_stamp}
use Rattle.css_model.proofs.Lately.{is_same_stamp-true}
use Rattle.css_model.proofs.Requests.{reading_of-stamp_of}
use Rattle.css_client.specs.declared.promises.Promise.{Promise}
use Rattle.css_client.specs.Clients.{is_among, NeverFall, is_promise, first_landed, asked_since}
use Rattle.css_client.specs.Clients.{AreDistinct, RemembersAll, RemembersOnly, Remembers}

-- ---- readings that never fall
-- those after which more are asked, from a later reading
pub never_fall-later : (floor reading : ℕ) (asked : List ℕ) → floor ≤ reading → NeverFall (floor ∷ asked)
    → NeverFall (reading ∷ asked)
never_fall-later floor reading asked less h = (
  All-weaker (λ earlier. earlier ≤ floor) (λ earlier. earlier ≤ reading)
      (λ earlier below. omega (arith, below)) asked h.0,
  h.1,
)

-- all of the first n are below what all are below
all-take : (P : ℕ → Type 0) (n : ℕ) (xs : List ℕ) → All P xs → All P (take n xs)
all-take P zero [] h = h
all-take P zero (x ∷ xs) h = All-nil P
all-take P (suc n) [] h = h
all-take P (suc n) (x ∷ xs) h = All-cons P x (take n xs) (All-head P x xs h) (all-take P n xs (All-tail P x xs h))

-- the first n
pub never_fall-take : (n : ℕ) (xs : List ℕ) → NeverFall xs → NeverFall (take n xs)
never_fall-take zero [] h = tt
never_fall-take zero (x ∷ xs) h = tt
never_fall-take (suc n) [] h = tt
never_fall-take (suc n) (x ∷ xs) h = (all-take (λ earlier. earlier ≤ x) n xs h.0, never_fall-take n xs h.1)

-- the newest and those that a ring keeps with it
pub never_fall-ring : (n reading : ℕ) (asked : List ℕ) → NeverFall (reading ∷ asked)
    → NeverFall (reading ∷ take n (reading ∷ asked))
never_fall-ring n reading asked h = (
  all-take (λ earlier. earlier ≤ reading) n (reading ∷ asked)
      (All-cons (λ earlier. earlier ≤ reading) reading asked (omega arith) h.0),
  never_fall-take n (reading ∷ asked) h,
)

-- some list has a last where it has a first
pub last_or-none : (x : ℕ) (xs : List ℕ) → last_or (Some x) xs ≡ None → ⊥
last_or-none x [] e = cc
last_or-none x (y ∷ ys) e = last_or-none y ys e

-- the last is the least
last_least : (oldest x : ℕ) (xs : List ℕ) → NeverFall (x ∷ xs) → last_or (Some x) xs ≡ Some oldest
    → All (λ r. oldest ≤ r) (x ∷ xs)
last_least oldest x [] h e =
    let same : x ≡ oldest = cc in
    All-cons (λ r. oldest ≤ r) x [] (omega arith) (All-nil (λ r. oldest ≤ r))
last_least oldest x (y ∷ ys) h e =
    let rest = last_least oldest y ys h.1 e in
    let below : y ≤ x = All-head (λ earlier. earlier ≤ x) y ys h.0 in
    let least : oldest ≤ y = All-head (λ r. oldest ≤ r) y ys rest in
    All-cons (λ r. oldest ≤ r) x (y ∷ ys) (omega arith) rest

-- ---- requests that are asked
-- what holds of all of them holds of the reading of an originate value among them
pub among-holds : (P : ℕ → Type 0) (originate : Stamp) (asked : List ℕ) → All P asked → is_among originate asked ≡ true
    → P (reading_of originate)
among-holds P o [] h e = absurd (false≢true e)
among-holds P o (x ∷ xs) h e = by (is_same_stamp (stamp_of x) o) refl e (among-holds P o xs (All-tail P x xs h))
  where
    by : (t : Bool) → is_same_stamp (stamp_of x) o ≡ t → (t || is_among o xs) ≡ true
        → (is_among o xs ≡ true → P (reading_of o)) → P (reading_of o)
    by true same e rest =
        subst P (sym (reading_of-stamp_of x) ∙ ap reading_of (is_same_stamp-true (stamp_of x) o same))
        (All-head P x xs h)
    by false other e rest = rest e

-- an originate value among them is that of its own reading
among-same : (originate : Stamp) (asked : List ℕ) → is_among originate asked ≡ true
    → is_same_stamp (stamp_of (reading_of originate)) originate ≡ true
among-same o [] e = absurd (false≢true e)
among-same o (x ∷ xs) e = by (is_same_stamp (stamp_of x) o) refl e (among-same o xs)
  where
    by : (t : Bool) → is_same_stamp (stamp_of x) o ≡ t → (t || is_among o xs) ≡ true
        → (is_among o xs ≡ true → is_same_stamp (stamp_of (reading_of o)) o ≡ true)
        → is_same_stamp (stamp_of (reading_of o)) o ≡ true
    by true same e rest =
        subst (λ (r : ℕ). is_same_stamp (stamp_of r) o ≡ true)
        (sym (reading_of-stamp_of x) ∙ ap reading_of (is_same_stamp-true (stamp_of x) o same)) same
    by false other e rest = rest e

-- a request from the oldest of the newest n on is one of these
pub among-newest : (n oldest : ℕ) (originate : Stamp) (asked : List ℕ) → NeverFall asked
    → last_or None (take n asked) ≡ Some oldest
    → oldest ≤ reading_of originate → is_among originate asked ≡ true → is_among originate (take n asked) ≡ true
among-newest n oldest o [] h last since e = absurd (false≢true e)
among-newest zero oldest o (x ∷ xs) h last since e = absurd (cc)
among-newest (suc zero) oldest o (x ∷ xs) h last since e = by (is_same_stamp (stamp_of x) o) refl e
  where
    by : (t : Bool) → is_same_stamp (stamp_of x) o ≡ t → (t || is_among o xs) ≡ true
        → (t || is_among o (take 0 xs)) ≡ true
    by true same e = refl
    by false other e =
        let first : x ≡ oldest = only xs last in
        let below : reading_of o ≤ x = among-holds (λ earlier. earlier ≤ x) o xs h.0 e in
        let same : reading_of o ≡ x = omega arith in
        absurd (false≢true
        (sym other ∙ subst (λ (r : ℕ). is_same_stamp (stamp_of r) o ≡ true) same (among-same o xs e)))
      where
        only : (ys : List ℕ) → last_or (Some x) (take 0 ys) ≡ Some oldest → x ≡ oldest
        only [] e = cc
        only (y ∷ ys) e = cc
among-newest (suc (suc n)) oldest o (x ∷ []) h last since e = e
among-newest (suc (suc n)) oldest o (x ∷ y ∷ ys) h last since e =
    by (is_same_stamp (stamp_of x) o) e (among-newest (suc n) oldest o (y ∷ ys) h.1 last since)
  where
    by : (t : Bool) → (t || is_among o (y ∷ ys)) ≡ true
        → (is_among o (y ∷ ys) ≡ true → is_among o (take (suc n) (y ∷ ys)) ≡ true)
        → (t || is_among o (take (suc n) (y ∷ ys))) ≡ true
    by true e rest = refl
    by false e rest = rest e

-- ---- what is remembered since the oldest
-- responses to requests from then on are still remembered
first_landed-since : (oldest : ℕ) (originate receive : Stamp) (promises : List Promise) → oldest ≤ reading_of originate
    → first_landed originate receive (asked_since oldest promises) ≡ first_landed originate receive promises
first_landed-since oldest o r [] since = refl
first_landed-since oldest o r (p ∷ ps) since =
    by (nat_lt (reading_of p.originate) oldest) refl (first_landed-since oldest o r ps since)
  where
    other : (t : Bool) → is_same_stamp p.originate o ≡ t → reading_of p.originate < oldest → t ≡ false
    other false e before = refl
    other true e before =
        let same : reading_of p.originate ≡ reading_of o = ap reading_of (is_same_stamp-true p.originate o e) in
        absurd (omega arith)

    by : (t : Bool) → nat_lt (reading_of p.originate) oldest ≡ t
        → first_landed o r (asked_since oldest ps) ≡ first_landed o r ps
        → first_landed o r (cond (not t) (p ∷ asked_since oldest ps) (asked_since oldest ps))
        ≡ cond (is_same_stamp p.originate o && is_same_stamp p.receive r) (Some p.landed) (first_landed o r ps)
    by true before rest =
        rw (other (is_same_stamp p.originate o) refl (ltb-true (reading_of p.originate) oldest before)) rest
    by false after rest = rw rest refl

-- all that are asked, or may still be, are remembered as before
pub remembers_all : (n request oldest : ℕ) (asked : List ℕ) (promises : List Promise)
    → last_or None (take (suc n) (request ∷ asked)) ≡ Some oldest → NeverFall (request ∷ asked)
    → RemembersAll request (take (suc n) (request ∷ asked)) promises (asked_since oldest promises)
remembers_all n request oldest asked promises last h o r current =
    first_landed-since oldest o r promises (since current)
  where
    least : All (λ x. oldest ≤ x) (request ∷ take n asked)
    least = last_least oldest request (take n asked) (never_fall-take (suc n) (request ∷ asked) h) last

    since : IsTrue (is_among o (take (suc n) (request ∷ asked))) ⊎ (request ≤ reading_of o) → oldest ≤ reading_of o
    since (inl found) = among-holds (λ x. oldest ≤ x) o (request ∷ take n asked) least found
    since (inr later) =
        let below : oldest ≤ request = All-head (λ x. oldest ≤ x) request (take n asked) least in
        omega arith

-- where nothing is remembered, nothing is to be forgotten
pub none_remembered : (asked kept : List ℕ) (promises : List Promise) → promises ≡ [] → RemembersOnly asked promises
    → RemembersOnly kept promises
none_remembered asked kept promises none only = record {
  of_asked = subst (λ (ps : List Promise). All (λ promise. IsTrue (is_among promise.originate kept)) ps) (sym none)
      (All-nil (λ (promise : Promise). IsTrue (is_among promise.originate kept)));
  once = only.once;
}

-- ---- nothing else is remembered
-- what holds of those that a filter keeps
kept-all : (P Q : Promise → Type 0) (test : Promise → Bool) → ((p : Promise) → P p → test p ≡ true → Q p)
    → (promises : List Promise) → All P promises → All Q (filter test promises)
kept-all P Q test f [] h = All-nil Q
kept-all P Q test f (p ∷ ps) h = by (test p) refl (kept-all P Q test f ps (All-tail P p ps h))
  where
    by : (t : Bool) → test p ≡ t → All Q (filter test ps) → All Q (cond t (p ∷ filter test ps) (filter test ps))
    by true e rest = All-cons Q p (filter test ps) (f p (All-head P p ps h) e) rest
    by false e rest = rest

-- what isn't found among all isn't among fewer
kept-none : (test : Promise → Bool) (originate receive : Stamp) (promises : List Promise)
    → first_landed originate receive promises ≡ None
    → first_landed originate receive (filter test promises) ≡ None
kept-none test o r [] e = refl
kept-none test o r (p ∷ ps) e = by (test p) (kept (is_promise o r p) refl e (kept-none test o r ps))
  where
    kept : (same : Bool) → is_promise o r p ≡ same → cond same (Some p.landed) (first_landed o r ps) ≡ None
        → (first_landed o r ps ≡ None → first_landed o r (filter test ps) ≡ None)
        → first_landed o r (filter test ps) ≡ None
    kept true is e rest = absurd (cc)
    kept false is e rest = rest e

    unlike : (same : Bool) → cond same (Some p.landed) (first_landed o r ps) ≡ None → same ≡ false
    unlike true e = absurd (cc)
    unlike false e = refl

    by : (t : Bool) → first_landed o r (filter test ps) ≡ None
        → first_landed o r (cond t (p ∷ filter test ps) (filter test ps)) ≡ None
    by true none = rw (unlike (is_promise o r p) e) none
    by false none = none

-- those that a filter keeps are still apart
kept-distinct : (test : Promise → Bool) (promises : List Promise) → AreDistinct promises
    → AreDistinct (filter test promises)
kept-distinct test [] h = tt
kept-distinct test (p ∷ ps) h = by (test p) (kept-distinct test ps h.1)
  where
    by : (t : Bool) → AreDistinct (filter test ps) → AreDistinct (cond t (p ∷ filter test ps) (filter test ps))
    by true rest = (kept-none test p.originate p.receive ps h.0, rest)
    by false rest = rest

-- after a request
pub remembers_only : (n request oldest : ℕ) (asked : List ℕ) (promises : List Promise)
    → last_or None (take n (request ∷ asked)) ≡ Some oldest → NeverFall (request ∷ asked)
    → RemembersOnly asked promises → RemembersOnly (take n (request ∷ asked)) (asked_since oldest promises)
remembers_only n request oldest asked promises last h only = record {
  of_asked =
      kept-all (λ p. IsTrue (is_among p.originate asked))
      (λ p. IsTrue (is_among p.originate (take n (request ∷ asked))))
      (λ p. not (nat_lt (reading_of p.originate) oldest))
      (λ p among since. among-newest n oldest p.originate (request ∷ asked) h last
      (from p (nat_lt (reading_of p.originate) oldest) refl since)
      (or_later (is_same_stamp (stamp_of request) p.originate)
      (is_among p.originate asked) among)) promises only.of_asked;
  once = kept-distinct (λ p. not (nat_lt (reading_of p.originate) oldest)) promises only.once;
}
  where
    or_later : (a b : Bool) → b ≡ true → (a || b) ≡ true
    or_later true b e = refl
    or_later false b e = e

    from : (p : Promise) (t : Bool) → nat_lt (reading_of p.originate) oldest ≡ t → not t ≡ true
        → oldest ≤ reading_of p.originate
    from p true e f = absurd (false≢true f)
    from p false e f = ltb-false (reading_of p.originate) oldest e

-- after an answer to a request that is asked
pub remembers_after : (asked : List ℕ) (old new : List Promise) (reading : ℕ) (message : Message)
    → is_among message.originate asked ≡ true
    → Remembers reading message old new → RemembersOnly asked old → RemembersOnly asked new
remembers_after asked old new reading message among remembers only = elim (eqb_tells message.message_type 2) [
  | inl same ↦ (remembers.0 same.1).only asked among only
  | inr other ↦ subst (λ (ps : List Promise). RemembersOnly asked ps) (sym (remembers.1 other.1)) only
]
