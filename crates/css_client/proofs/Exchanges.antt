-- The map of what is remembered, as the list of its promises.
use Rattle.std.proofs.Common.{◌≡◌, ℕ, ◌<◌, ◌≤◌, arith, ap, sym, ◌∙◌, subst, Bool}
use Rattle.std.proofs.Common.{true, false, cond, ◌&&◌, List, [], ◌∷◌, refl}
use Rattle.std.specs.Prelude.{map, length, not, nat_lt, ◌==◌, Option, Some, None, is_some}
use Rattle.std.specs.Prelude.{IfSome, All, IsTrue, Result, Ok, Err, IfOk, OnErr}
use Rattle.std.specs.List.{filter, AllByRecursion}
use Rattle.std.specs.List.Sorted.{IsStrictlySortedBy}
use Rattle.std.specs.Option.{option_or}
use Rattle.std.specs.declared.cmp.Ordering.{Ordering}
use Rattle.std.specs.declared.cmp.Ordering.TheVariants.{Less, Equal, Greater}
use Rattle.std.specs.Ordering.{nat_cmp, ordering_then, is_eq, is_gt, match_ordering}
use Rattle.std.specs.Cmp.{unsigned_tied, nat_eq_equiv}
use Rattle.std.specs.Map.{lookup, remove_entry, keys_of}
use Rattle.std.specs.BTreeMap.{is_at, insert_entry}
use Rattle.std.proofs.lemmas.Bool.{false≢true, and_parts, eqb-true, ltb-true, ltb-false}
use Rattle.std.proofs.lemmas.List.Elements.{All-nil, All-head, All-tail, All-cons}
use Rattle.css_num.specs.declared.memory.Memory.{Memory}
use Rattle.css_model.specs.declared.Stamp.{Stamp}
use Rattle.css_model.specs.Wire.{stamp_of, is_same_stamp}
use Rattle.css_model.proofs.Lately.{is_same_stamp-true}
use Rattle.css_model.proofs.Requests.{reading_of-stamp_of}
use Rattle.css_client.specs.declared.promises.Exchange.{Exchange}
use Rattle.css_client.specs.declared.promises.Promise.{Promise}
use Rattle.css_client.specs.Clients.{exchange_cmp, is_among, promise_of, is_promise, first_landed}
use Rattle.css_client.specs.Clients.{without_promise, asked_since, AreDistinct, Adds}
use Rattle.css_client.proofs.Rings.{same_originate}

-- what the map has is seen as
abbrev pub seen : List (Exchange × ℕ) → List Promise
seen entries = map promise_of entries

-- an empty map is seen as no promises
pub none_seen : (entries : List (Exchange × ℕ)) → length entries ≡ 0 → seen entries ≡ []
none_seen [] e = refl
none_seen (entry ∷ entries) e = absurd (cc)

-- ---- what exchanges are told apart by
-- two readings have one time on the wire where they are equal
same_reading : (r s : ℕ) → is_same_stamp (stamp_of s) (stamp_of r) ≡ (r == s)
same_reading r s =
    same_originate (stamp_of r) s (omega arith)
    ∙ ap (λ (n : ℕ). s == n) (reading_of-stamp_of r)
    ∙ nat_eq_equiv.symm s r

-- two orders, one after the other, tell nothing apart where neither does
both_equal : (r s : Ordering) → is_eq (ordering_then r s) ≡ (is_eq r && is_eq s)
both_equal Less s = refl
both_equal Equal s = refl
both_equal Greater s = refl

-- the map finds an exchange where its stamps are the same
pub same_exchange : (x y : Exchange) → is_eq (exchange_cmp x y)
    ≡ (is_same_stamp (stamp_of y.asked) (stamp_of x.asked) && is_same_stamp (stamp_of y.received) (stamp_of x.received))
same_exchange x y =
    both_equal (nat_cmp x.asked y.asked) (nat_cmp x.received y.received)
    ∙ rw (
      same_reading x.asked y.asked,
      same_reading x.received y.received,
      unsigned_tied x.asked y.asked,
      unsigned_tied x.received y.received,
    ) refl

-- and what it finds is what is remembered of them
pub lookup-first : (x : Exchange) (entries : List (Exchange × ℕ))
    → lookup (is_at (exchange_cmp x)) entries ≡ first_landed (stamp_of x.asked) (stamp_of x.received) (seen entries)
lookup-first x [] = refl
lookup-first x (e ∷ es) = rw (same_exchange x e.0, lookup-first x es) refl

-- the same by the stamps that the exchange was made of
pub known-at : (x : Exchange) (originate receive : Stamp) (entries : List (Exchange × ℕ)) (promises : List Promise)
    → stamp_of x.asked ≡ originate → stamp_of x.received ≡ receive → seen entries ≡ promises
    → lookup (is_at (exchange_cmp x)) entries ≡ first_landed originate receive promises
known-at x o r es ps e f view =
    lookup-first x es
    ∙ ap (λ (s : Stamp). first_landed s (stamp_of x.received) (seen es)) e
    ∙ ap (λ (s : Stamp). first_landed o s (seen es)) f
    ∙ ap (λ (qs : List Promise). first_landed o r qs) view

-- what isn't known is nowhere
unknown : (known : Option ℕ) → is_some known ≡ false → known ≡ None
unknown None e = refl
unknown (Some y) e = absurd (false≢true (sym e))

-- a time that is found is in range
pub found-all : (P : ℕ → Type 0) (test : Exchange → Bool) (entries : List (Exchange × ℕ)) → All (λ e. P e.1) entries
    → IfSome (lookup test entries) P
found-all P test [] h = tt
found-all P test (e ∷ es) h = by (test e.0) (found-all P test es (All-tail (λ e. P e.1) e es h))
  where
    by : (t : Bool) → IfSome (lookup test es) P → IfSome (cond t (Some e.1) (lookup test es)) P
    by true rest = All-head (λ e. P e.1) e es h
    by false rest = rest

-- ---- one more
-- what holds of each of them, and of one more
all-insert : (P : Exchange × ℕ → Type 0) (x : Exchange) (landed : ℕ) (entries : List (Exchange × ℕ))
    → lookup (is_at (exchange_cmp x)) entries ≡ None
    → P (x, landed) → All P entries → All P (insert_entry exchange_cmp entries x landed)
all-insert P x v [] absent p h = All-cons P (x, v) [] p h
all-insert P x v (e ∷ es) absent p h =
    by (exchange_cmp x e.0) absent (λ rest. all-insert P x v es rest p (All-tail P e es h))
  where
    by : (o : Ordering) → cond (is_eq o) (Some e.1) (lookup (is_at (exchange_cmp x)) es) ≡ None
        → (lookup (is_at (exchange_cmp x)) es ≡ None → All P (insert_entry exchange_cmp es x v))
        → All P (match_ordering o ((x, v) ∷ e ∷ es) ((e.0, v) ∷ es) (e ∷ insert_entry exchange_cmp es x v))
    by Less absent rest = All-cons P (x, v) (e ∷ es) p h
    by Equal absent rest = absurd (cc)
    by Greater absent rest = All-cons P e (insert_entry exchange_cmp es x v) (All-head P e es h) (rest absent)

-- what is known with one more
pub first_landed-insert : (originate receive : Stamp) (x : Exchange) (landed : ℕ) (entries : List (Exchange × ℕ))
    → lookup (is_at (exchange_cmp x)) entries ≡ None
    → first_landed originate receive (seen (insert_entry exchange_cmp entries x landed))
    ≡ option_or (first_landed originate receive (seen entries))
    (cond (is_promise originate receive (promise_of (x, landed))) (Some landed) None)
first_landed-insert o r x v [] absent = refl
first_landed-insert o r x v (e ∷ es) absent =
    by (exchange_cmp x e.0) refl absent (λ rest. first_landed-insert o r x v es rest)
  where
    none_too : (a : Option ℕ) → a ≡ option_or a None
    none_too None = refl
    none_too (Some y) = refl

    new_alone : is_promise o r (promise_of (x, v)) ≡ true → first_landed o r (seen (e ∷ es)) ≡ None
    new_alone same =
        let parts = and_parts (is_same_stamp (stamp_of x.asked) o) (is_same_stamp (stamp_of x.received) r) same in
        ap (λ (s : Stamp). first_landed s r (seen (e ∷ es))) (sym (is_same_stamp-true (stamp_of x.asked) o parts.0))
        ∙ ap (λ (s : Stamp). first_landed (stamp_of x.asked) s (seen (e ∷ es)))
        (sym (is_same_stamp-true (stamp_of x.received) r parts.1))
        ∙ sym (lookup-first x (e ∷ es)) ∙ absent

    before : (t : Bool) → is_promise o r (promise_of (x, v)) ≡ t
        → cond t (Some v) (first_landed o r (seen (e ∷ es)))
        ≡ option_or (first_landed o r (seen (e ∷ es))) (cond t (Some v) None)
    before true same = rw (new_alone same) refl
    before false other = none_too (first_landed o r (seen (e ∷ es)))

    after : (t : Bool) (rest new : Option ℕ)
        → cond t (Some e.1) (option_or rest new) ≡ option_or (cond t (Some e.1) rest) new
    after true rest new = refl
    after false rest new = refl

    by : (c : Ordering) → exchange_cmp x e.0 ≡ c → cond (is_eq c) (Some e.1) (lookup (is_at (exchange_cmp x)) es) ≡ None
        → (lookup (is_at (exchange_cmp x)) es ≡ None → first_landed o r (seen (insert_entry exchange_cmp es x v))
        ≡ option_or (first_landed o r (seen es)) (cond (is_promise o r (promise_of (x, v))) (Some v) None))
        → first_landed o r
        (seen (match_ordering c ((x, v) ∷ e ∷ es) ((e.0, v) ∷ es) (e ∷ insert_entry exchange_cmp es x v)))
        ≡ option_or (first_landed o r (seen (e ∷ es))) (cond (is_promise o r (promise_of (x, v))) (Some v) None)
    by Less is absent rest = before (is_promise o r (promise_of (x, v))) refl
    by Equal is absent rest = absurd (cc)
    by Greater is absent rest =
        rw (rest absent)
        (after (is_promise o r (promise_of e)) (first_landed o r (seen es))
        (cond (is_promise o r (promise_of (x, v))) (Some v) None))

-- an exchange isn't found among greater ones
above-none : (x : Exchange) (entries : List (Exchange × ℕ))
    → AllByRecursion (λ y. exchange_cmp x y ≡ Less) (keys_of entries)
    → first_landed (stamp_of x.asked) (stamp_of x.received) (seen entries) ≡ None
above-none x [] h = refl
above-none x (e ∷ es) h =
    rw (sym (same_exchange x e.0) ∙ ap is_eq h.0) (above-none x es h.1)

-- so no exchange of an ordered map is there twice
pub distinct-ordered : (entries : List (Exchange × ℕ)) → IsStrictlySortedBy exchange_cmp (keys_of entries)
    → AreDistinct (seen entries)
unfolding IsStrictlySortedBy
distinct-ordered [] h = tt
distinct-ordered (e ∷ es) h = (above-none e.0 es h.0, distinct-ordered es h.1)

-- promises of requests that are asked, as the map has them
of_entries : (P : Promise → Type 0) (entries : List (Exchange × ℕ)) → All P (seen entries)
    → All (λ e. P (promise_of e)) entries
of_entries P [] h = All-nil (λ e. P (promise_of e))
of_entries P (e ∷ es) h =
    All-cons (λ e. P (promise_of e)) e es (All-head P (promise_of e) (seen es) h)
    (of_entries P es (All-tail P (promise_of e) (seen es) h))

-- and back
to_entries : (P : Promise → Type 0) (entries : List (Exchange × ℕ))
    → All (λ e. P (promise_of e)) entries → All P (seen entries)
to_entries P [] h = All-nil P
to_entries P (e ∷ es) h =
    All-cons P (promise_of e) (seen es) (All-head (λ e. P (promise_of e)) e es h)
    (to_entries P es (All-tail (λ e. P (promise_of e)) e es h))

-- a promise by the exchange that it is of
same_promise : (x : Exchange) (promise : Promise) → stamp_of x.asked ≡ promise.originate
    → stamp_of x.received ≡ promise.receive
    → promise_of (x, promise.landed) ≡ promise
same_promise x p o r =
    ap (λ (s : Stamp). record { originate = s; receive = stamp_of x.received; landed = p.landed }) o
    ∙ ap (λ (s : Stamp). record { originate = p.originate; receive = s; landed = p.landed }) r

-- the map with one more
adds-entry : (x : Exchange) (landed : ℕ) (entries : List (Exchange × ℕ))
    → lookup (is_at (exchange_cmp x)) entries ≡ None
    → IsStrictlySortedBy exchange_cmp (keys_of (insert_entry exchange_cmp entries x landed))
    → Adds (promise_of (x, landed)) (seen entries) (seen (insert_entry exchange_cmp entries x landed))
adds-entry x v es absent ordered = record {
  values = λ o r. first_landed-insert o r x v es absent;
  only = λ asked among old. record {
    of_asked =
        to_entries (λ p. IsTrue (is_among p.originate asked)) (insert_entry exchange_cmp es x v)
        (all-insert (λ e. IsTrue (is_among (promise_of e).originate asked)) x v es absent among
        (of_entries (λ p. IsTrue (is_among p.originate asked)) es old.of_asked));
    once = distinct-ordered (insert_entry exchange_cmp es x v) ordered;
  };
}

-- the same by the promise and the lists before and after
adds-insert : (x : Exchange) (promise : Promise) (entries new : List (Exchange × ℕ)) (old : List Promise)
    → stamp_of x.asked ≡ promise.originate → stamp_of x.received ≡ promise.receive
    → lookup (is_at (exchange_cmp x)) entries ≡ None → new ≡ insert_entry exchange_cmp entries x promise.landed
    → IsStrictlySortedBy exchange_cmp (keys_of new) → seen entries ≡ old → Adds promise old (seen new)
adds-insert x p es new old o r absent is ordered view =
    subst (λ (q : Promise). Adds q old (seen new)) (same_promise x p o r)
    (subst (λ (ps : List Promise). Adds (promise_of (x, p.landed)) ps (seen new)) view
    (subst (λ (fs : List (Exchange × ℕ)). Adds (promise_of (x, p.landed)) (seen es) (seen fs)) (sym is)
    (adds-entry x p.landed es absent
    (subst (λ (fs : List (Exchange × ℕ)). IsStrictlySortedBy exchange_cmp (keys_of fs)) is ordered))))

-- the promises as they are, where there is one with the same values
adds-known : (x : Exchange) (promise : Promise) (entries : List (Exchange × ℕ)) (old : List Promise)
    → stamp_of x.asked ≡ promise.originate → stamp_of x.received ≡ promise.receive
    → is_some (lookup (is_at (exchange_cmp x)) entries) ≡ true → seen entries ≡ old → Adds promise old old
adds-known x p es old o r known view = record {
  values = λ s t. by s t (is_promise s t p) refl;
  only = λ asked among before. before;
}
  where
    found : is_some (first_landed p.originate p.receive old) ≡ true
    found = ap is_some (sym (known-at x p.originate p.receive es old o r view)) ∙ known

    none_too : (a : Option ℕ) → a ≡ option_or a None
    none_too None = refl
    none_too (Some y) = refl

    first_stays : (a : Option ℕ) (new : Option ℕ) → is_some a ≡ true → a ≡ option_or a new
    first_stays None new e = absurd (false≢true e)
    first_stays (Some y) new e = refl

    by : (s t : Stamp) (same : Bool) → is_promise s t p ≡ same
        → first_landed s t old ≡ option_or (first_landed s t old) (cond same (Some p.landed) None)
    by s t true same =
        let parts = and_parts (is_same_stamp p.originate s) (is_same_stamp p.receive t) same in
        first_stays (first_landed s t old) (Some p.landed)
        (subst (λ (a : Stamp). is_some (first_landed a t old) ≡ true) (is_same_stamp-true p.originate s parts.0)
        (subst (λ (b : Stamp). is_some (first_landed p.originate b old) ≡ true)
        (is_same_stamp-true p.receive t parts.1) found))
    by s t false other = none_too (first_landed s t old)

-- ---- one less
-- without an exchange
pub seen-remove : (x : Exchange) (entries : List (Exchange × ℕ))
    → seen (remove_entry (is_at (exchange_cmp x)) entries)
    ≡ without_promise (stamp_of x.asked) (stamp_of x.received) (seen entries)
seen-remove x [] = refl
seen-remove x (e ∷ es) =
    by (is_eq (exchange_cmp x e.0)) (seen-remove x es) ∙ ap (λ (t : Bool). cond t (seen es)
    (promise_of e ∷ without_promise (stamp_of x.asked) (stamp_of x.received) (seen es))) (same_exchange x e.0)
  where
    by : (t : Bool) → seen (remove_entry (is_at (exchange_cmp x)) es) ≡ without_promise (stamp_of x.asked)
        (stamp_of x.received) (seen es)
        → seen (cond t es (e ∷ remove_entry (is_at (exchange_cmp x)) es))
        ≡ cond t (seen es) (promise_of e ∷ without_promise (stamp_of x.asked) (stamp_of x.received) (seen es))
    by true rest = refl
    by false rest = ap (λ (ps : List Promise). promise_of e ∷ ps) rest

-- the same by the stamps and the lists before and after
pub without-at : (x : Exchange) (originate receive : Stamp) (entries new : List (Exchange × ℕ)) (old : List Promise)
    → stamp_of x.asked ≡ originate → stamp_of x.received ≡ receive
    → new ≡ remove_entry (is_at (exchange_cmp x)) entries → seen entries ≡ old
    → seen new ≡ without_promise originate receive old
without-at x o r es new old e f is view =
    ap seen is
    ∙ seen-remove x es
    ∙ ap (λ (s : Stamp). without_promise s (stamp_of x.received) (seen es)) e
    ∙ ap (λ (s : Stamp). without_promise o s (seen es)) f
    ∙ ap (λ (ps : List Promise). without_promise o r ps) view

-- what holds of each holds of each that is left
pub all-remove : (P : Exchange × ℕ → Type 0) (test : Exchange → Bool) (entries : List (Exchange × ℕ)) → All P entries
    → All P (remove_entry test entries)
all-remove P test [] h = h
all-remove P test (e ∷ es) h = by (test e.0) (all-remove P test es (All-tail P e es h))
  where
    by : (t : Bool) → All P (remove_entry test es) → All P (cond t es (e ∷ remove_entry test es))
    by true rest = All-tail P e es h
    by false rest = All-cons P e (remove_entry test es) (All-head P e es h) rest

-- and of each that a filter keeps
pub all-filter : (P : Exchange × ℕ → Type 0) (test : Exchange × ℕ → Bool) (entries : List (Exchange × ℕ))
    → All P entries → All P (filter test entries)
all-filter P test [] h = h
all-filter P test (e ∷ es) h = by (test e) (all-filter P test es (All-tail P e es h))
  where
    by : (t : Bool) → All P (filter test es) → All P (cond t (e ∷ filter test es) (filter test es))
    by true rest = All-cons P e (filter test es) (All-head P e es h) rest
    by false rest = rest

-- an exchange is equal to itself
same_as_itself : (x : Exchange) → is_eq (exchange_cmp x x) ≡ true
same_as_itself x =
    both_equal (nat_cmp x.asked x.asked) (nat_cmp x.received x.received)
    ∙ rw (
      unsigned_tied x.asked x.asked,
      unsigned_tied x.received x.received,
      nat_eq_equiv.refl x.asked,
      nat_eq_equiv.refl x.received,
    ) refl

-- so what was entered is what is removed
remove-insert : (x : Exchange) (landed : ℕ) (entries : List (Exchange × ℕ))
    → lookup (is_at (exchange_cmp x)) entries ≡ None
    → remove_entry (is_at (exchange_cmp x)) (insert_entry exchange_cmp entries x landed) ≡ entries
remove-insert x v [] absent = rw (same_as_itself x) refl
remove-insert x v (e ∷ es) absent = by (exchange_cmp x e.0) refl absent (λ rest. remove-insert x v es rest)
  where
    by : (c : Ordering) → exchange_cmp x e.0 ≡ c → cond (is_eq c) (Some e.1) (lookup (is_at (exchange_cmp x)) es) ≡ None
        → (lookup (is_at (exchange_cmp x)) es ≡ None
        → remove_entry (is_at (exchange_cmp x)) (insert_entry exchange_cmp es x v) ≡ es)
        → remove_entry (is_at (exchange_cmp x))
        (match_ordering c ((x, v) ∷ e ∷ es) ((e.0, v) ∷ es) (e ∷ insert_entry exchange_cmp es x v)) ≡ e ∷ es
    by Less is absent rest = rw (same_as_itself x) refl
    by Equal is absent rest = absurd (cc)
    by Greater is absent rest = rw is (ap (λ (ys : List (Exchange × ℕ)). e ∷ ys) (rest absent))

-- what was added is taken back
without-insert : (x : Exchange) (originate receive : Stamp) (landed : ℕ)
    (entries new : List (Exchange × ℕ)) (old : List Promise)
    → stamp_of x.asked ≡ originate → stamp_of x.received ≡ receive
    → lookup (is_at (exchange_cmp x)) entries ≡ None
    → new ≡ insert_entry exchange_cmp entries x landed → seen entries ≡ old
    → old ≡ without_promise originate receive (seen new)
without-insert x o r v es new old e f absent is view =
    sym view
    ∙ ap seen (sym (ap (λ (fs : List (Exchange × ℕ)). remove_entry (is_at (exchange_cmp x)) fs) is
    ∙ remove-insert x v es absent))
    ∙ without-at x o r new (remove_entry (is_at (exchange_cmp x)) new) (seen new) e f refl refl

-- ---- one more, unless it is known
-- the test that is turned round
turned : (a t : Bool) → t ≡ not a → a ≡ not t
turned true t e = rw e refl
turned false t e = rw e refl

-- what holds of each, after a landing was entered or not
pub all-noted : (P : Exchange × ℕ → Type 0) (x : Exchange) (landed : ℕ) (entries new : List (Exchange × ℕ))
    (result : Result Bool Memory)
    → IfOk result (λ is_new. is_new ≡ not (is_some (lookup (is_at (exchange_cmp x)) entries)))
    → IfOk result (λ is_new. new ≡ cond is_new (insert_entry exchange_cmp entries x landed) entries)
    → OnErr result (new ≡ entries)
    → P (x, landed) → All P entries → All P new
all-noted P x v es new (Err fault) first is kept p h = subst (λ (fs : List (Exchange × ℕ)). All P fs) (sym kept) h
all-noted P x v es new (Ok false) first is kept p h = subst (λ (fs : List (Exchange × ℕ)). All P fs) (sym is) h
all-noted P x v es new (Ok true) first is kept p h =
    subst (λ (fs : List (Exchange × ℕ)). All P fs) (sym is) (all-insert P x v es (unknown _ (turned _ true first)) p h)

-- the promises with one more, or as they were
pub adds-noted : (x : Exchange) (promise : Promise) (entries new : List (Exchange × ℕ)) (old : List Promise)
    (result : Result Bool Memory)
    → stamp_of x.asked ≡ promise.originate → stamp_of x.received ≡ promise.receive
    → IfOk result (λ is_new. is_new ≡ not (is_some (lookup (is_at (exchange_cmp x)) entries)))
    → IfOk result (λ is_new. new ≡ cond is_new (insert_entry exchange_cmp entries x promise.landed) entries)
    → IsStrictlySortedBy exchange_cmp (keys_of new) → seen entries ≡ old
    → IfOk result (λ is_new. Adds promise old (seen new))
adds-noted x p es new old (Err fault) o r first is ordered view = tt
adds-noted x p es new old (Ok false) o r first is ordered view =
    subst (λ (ps : List Promise). Adds p old ps) (sym view ∙ ap seen (sym is))
    (adds-known x p es old o r (turned _ false first) view)
adds-noted x p es new old (Ok true) o r first is ordered view =
    adds-insert x p es new old o r (unknown _ (turned _ true first)) is ordered view

-- and how that is undone
pub undone-noted : (x : Exchange) (promise : Promise) (entries new : List (Exchange × ℕ)) (old : List Promise)
    (result : Result Bool Memory)
    → stamp_of x.asked ≡ promise.originate → stamp_of x.received ≡ promise.receive
    → IfOk result (λ is_new. is_new ≡ not (is_some (lookup (is_at (exchange_cmp x)) entries)))
    → IfOk result (λ is_new. new ≡ cond is_new (insert_entry exchange_cmp entries x promise.landed) entries)
    → seen entries ≡ old → IfOk result
    (λ is_new. old ≡ cond is_new (without_promise promise.originate promise.receive (seen new)) (seen new))
undone-noted x p es new old (Err fault) o r first is view = tt
undone-noted x p es new old (Ok false) o r first is view = sym view ∙ ap seen (sym is)
undone-noted x p es new old (Ok true) o r first is view =
    without-insert x p.originate p.receive p.landed es new old o r (unknown _ (turned _ true first)) is view

-- ---- those since a reading
pub seen-since : (oldest : ℕ) (entries : List (Exchange × ℕ))
    → seen (filter (λ e. not (nat_lt e.0.asked oldest)) entries) ≡ asked_since oldest (seen entries)
seen-since oldest [] = refl
seen-since oldest (e ∷ es) =
    by (nat_lt e.0.asked oldest) (seen-since oldest es)
    ∙ ap (λ (n : ℕ). cond (not (nat_lt n oldest)) (promise_of e ∷ asked_since oldest (seen es))
    (asked_since oldest (seen es))) (sym (reading_of-stamp_of e.0.asked))
  where
    by : (t : Bool) → seen (filter (λ e. not (nat_lt e.0.asked oldest)) es) ≡ asked_since oldest (seen es)
        → seen (cond (not t) (e ∷ filter (λ e. not (nat_lt e.0.asked oldest)) es)
        (filter (λ e. not (nat_lt e.0.asked oldest)) es))
        ≡ cond (not t) (promise_of e ∷ asked_since oldest (seen es)) (asked_since oldest (seen es))
    by true rest = rest
    by false rest = ap (λ (ps : List Promise). promise_of e ∷ ps) rest

-- all of a list since a reading
pub since-all : (oldest : ℕ) (entries : List (Exchange × ℕ)) → All (λ x. oldest ≤ x.asked) (keys_of entries)
    → filter (λ e. not (nat_lt e.0.asked oldest)) entries ≡ entries
since-all oldest [] h = refl
since-all oldest (e ∷ es) h =
    by (nat_lt e.0.asked oldest) refl (since-all oldest es (All-tail (λ x. oldest ≤ x.asked) e.0 (keys_of es) h))
  where
    by : (t : Bool) → nat_lt e.0.asked oldest ≡ t → filter (λ e. not (nat_lt e.0.asked oldest)) es ≡ es
        → cond (not t) (e ∷ filter (λ e. not (nat_lt e.0.asked oldest)) es)
        (filter (λ e. not (nat_lt e.0.asked oldest)) es) ≡ e ∷ es
    by true before rest =
        let less : e.0.asked < oldest = ltb-true e.0.asked oldest before in
        let since : oldest ≤ e.0.asked = All-head (λ x. oldest ≤ x.asked) e.0 (keys_of es) h in
        absurd (omega arith)
    by false after rest = ap (λ (ys : List (Exchange × ℕ)). e ∷ ys) rest

-- the first of them is left out where it is before
pub since-first : (oldest : ℕ) (e : Exchange × ℕ) (entries : List (Exchange × ℕ)) → e.0.asked < oldest
    → filter (λ e. not (nat_lt e.0.asked oldest)) (e ∷ entries) ≡ filter (λ e. not (nat_lt e.0.asked oldest)) entries
since-first oldest e es less = by (nat_lt e.0.asked oldest) refl
  where
    by : (t : Bool) → nat_lt e.0.asked oldest ≡ t
        → cond (not t) (e ∷ filter (λ e. not (nat_lt e.0.asked oldest)) es)
        (filter (λ e. not (nat_lt e.0.asked oldest)) es) ≡ filter (λ e. not (nat_lt e.0.asked oldest)) es
    by true before = refl
    by false after =
        let since : oldest ≤ e.0.asked = ltb-false e.0.asked oldest after in
        absurd (omega arith)

-- what isn't below an exchange was asked no earlier
pub asked-le : (x y : Exchange) → is_gt (exchange_cmp x y) ≡ false → x.asked ≤ y.asked
asked-le x y h = by (nat_lt x.asked y.asked) (x.asked == y.asked) refl refl h
  where
    by : (less same : Bool) → nat_lt x.asked y.asked ≡ less → (x.asked == y.asked) ≡ same
        → is_gt (ordering_then (cond less Less (cond same Equal Greater)) (nat_cmp x.received y.received))
        ≡ false → x.asked ≤ y.asked
    by true same e f h = omega (arith, ltb-true x.asked y.asked e)
    by false true e f h = omega (arith, eqb-true x.asked y.asked f)
    by false false e f h = absurd (false≢true (sym h))

-- so all of a map whose first was asked no earlier were asked no earlier
pub asked-all : (oldest : ℕ) (x : Exchange) (exchanges : List Exchange) → oldest ≤ x.asked
    → All (λ y. is_gt (exchange_cmp x y) ≡ false) exchanges
    → All (λ y. oldest ≤ y.asked) exchanges
asked-all oldest x [] less h = All-nil (λ y. oldest ≤ y.asked)
asked-all oldest x (y ∷ ys) less h =
    let first : x.asked ≤ y.asked = asked-le x y (All-head (λ y. is_gt (exchange_cmp x y) ≡ false) y ys h) in
    All-cons (λ y. oldest ≤ y.asked) y ys (omega arith)
    (asked-all oldest x ys less (All-tail (λ y. is_gt (exchange_cmp x y) ≡ false) y ys h))
