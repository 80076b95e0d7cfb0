-- The sessions that a relay's run names were accepted, and that of the television was dialled: peers have rising
-- numbers.
use Rattle.std.proofs.Common.{◌≡◌, ℕ, ◌≤◌, ◌<◌, arith, refl, Bool, true, false, List, [], ◌∷◌, ◌++◌, Option, Some, None}
use Rattle.std.specs.Prelude.{◌==◌, ◌||◌, IfSome, ⊤}
use Rattle.std.proofs.lemmas.Bool.Decides.{nat_tests}
use Rattle.css_model.specs.declared.Kind.{Kind}
use Rattle.css_model.specs.declared.Kind.TheVariants as kind
use Rattle.css_model.specs.History.{Accepted, Closed, Dialled, Entry, Gone, Heard, History}
use Rattle.css_companion.specs.Meanings.{kind_of}
use Rattle.css_drive.specs.TvRan.{AreBelow, AreNumbered}
use Rattle.css_drive_relay.specs.Places.{Asked, Dropping, Greeting, Place, Progress, Telling, progress_of, without}
use Rattle.css_drive_relay.specs.Standing.{AreInOrder}
use Rattle.css_drive_relay.specs.Told.{has}
use Rattle.css_drive_relay.specs.declared.plan.Plan.{Plan}

-- ---- numbers
pub in_order_later : (n m : ℕ) (h : History) → AreInOrder n h → n ≤ m → AreInOrder m h
in_order_later n m [] o le = tt
in_order_later n m (Dialled k peer ∷ older) o le = let lt = o.0 in (omega (arith, lt, le), o.1)
in_order_later n m (Accepted peer k ∷ older) o le = let lt = o.0 in (omega (arith, lt, le), o.1)
in_order_later n m (_ ∷ older) o le = in_order_later n m older o le

pub numbered : (n m : ℕ) (h : History) → AreInOrder n h → n ≤ m → AreBelow m h × AreNumbered h
numbered n m [] o le = (tt, tt)
numbered n m (Dialled k peer ∷ older) o le = let lt = o.0 in numbered peer m older o.1 (omega (arith, lt, le))
numbered n m (Accepted peer k ∷ older) o le =
    let lt = o.0 in (
      (omega (arith, lt, le), (numbered peer m older o.1 (omega (arith, lt, le))).0),
      numbered peer peer older o.1 (omega arith),
    )
numbered n m (_ ∷ older) o le = numbered n m older o le

-- a peer with a greater number was not dialled
unused : (n : ℕ) (h : History) (peer : ℕ) → AreInOrder n h → n ≤ peer → kind_of peer h ≡ None
unused n [] peer o le = refl
unused n (Dialled k q ∷ older) peer o le =
    let lt = o.0 in
    let none = unused q older peer o.1 (omega (arith, lt, le)) in grind (arith, nat_tests, lt, le, none)
unused n (Accepted q k ∷ older) peer o le = let lt = o.0 in unused q older peer o.1 (omega (arith, lt, le))
unused n (_ ∷ older) peer o le = unused n older peer o le

-- whether a session of this peer was accepted
abbrev pub has_come : ℕ → History → Bool
has_come peer [] = false
has_come peer (Accepted other kind ∷ older) = (other == peer) || has_come peer older
has_come peer (_ ∷ older) = has_come peer older

came_last : (q n peer : ℕ) (earlier : Bool) (kind : Option Kind) → q < n → ((q == peer) || earlier) ≡ true
    → (q ≤ peer → kind ≡ None) → (earlier ≡ true → (peer < q) × (kind ≡ None)) → (peer < n) × (kind ≡ None)
came_last q n peer earlier kind lt came none earlier_so = grind (arith, nat_tests, lt, came, none, earlier_so)

-- one that was accepted has a number below, and was not dialled
undialled : (n : ℕ) (h : History) (peer : ℕ) → AreInOrder n h → has_come peer h ≡ true
    → (peer < n) × (kind_of peer h ≡ None)
undialled n [] peer o c = absurd (let f : false ≡ true = c in cc)
undialled n (Dialled k q ∷ older) peer o c =
    let lt = o.0 in
    let x = undialled q older peer o.1 c in grind (arith, nat_tests, lt, x)
undialled n (Accepted q k ∷ older) peer o c =
    came_last q n peer (has_come peer older) (kind_of peer older) o.0 c (unused q older peer o.1)
    (undialled q older peer o.1)
undialled n (_ ∷ older) peer o c = undialled n older peer o c

-- ---- accepted sessions
-- those that a place names
abbrev pub named : Place → List ℕ
named (Greeting peer) = peer ∷ []
named (Telling text left) = left
named (Asked left) = left
named (Dropping peer left) = left
named _ = []

abbrev pub implies : Bool → Bool → Bool
implies false b = true
implies true b = b

-- A peer's session was accepted, if it is open or the place names it.
abbrev pub IsKnown : ℕ → History → Progress → Type 0
IsKnown peer h p = (implies (has peer p.facts.peers) (has_come peer h) ≡ true)
    × (implies (has peer (named p.place)) (has_come peer h) ≡ true)

has_left : (peer other : ℕ) (peers : List ℕ) → implies (has peer (without other peers)) (has peer peers) ≡ true
has_left peer other [] = refl
has_left peer other (p ∷ ps) = let ih = has_left peer other ps in grind (arith, ih)

has_last : (peer other : ℕ) (peers : List ℕ)
    → implies (has peer (peers ++ other ∷ [])) ((other == peer) || has peer peers) ≡ true
has_last peer other [] = grind arith
has_last peer other (p ∷ ps) = let ih = has_last peer other ps in grind (arith, ih)

-- an entry by which no session comes or goes
abbrev pub IsKept : Entry → Type 0
IsKept (Accepted peer kind) = ⊥
IsKept (Heard peer bytes) = ⊥
IsKept (Closed peer) = ⊥
IsKept (Gone peer) = ⊥
IsKept _ = ⊤

module _ (plan : Plan) (peer : ℕ) (older : History) (k : IsKnown peer older (progress_of plan older)) where
  abbrev Next : Entry → Type 0
  Next entry = IsKnown peer (entry ∷ older) (progress_of plan (entry ∷ older))

  after_kept : (entry : Entry) → IsKept entry → Next entry
  after_kept entry is = grind (arith, is, k)

  after_accepted : (q : ℕ) (which : Kind) → Next (Accepted q which)
  after_accepted q which = let last = has_last peer q (progress_of plan older).facts.peers in grind (arith, k, last)

  after_heard : (q : ℕ) (bytes : List ℕ) → Next (Heard q bytes)
  after_heard q bytes = let left = has_left peer q (progress_of plan older).facts.peers in grind (arith, k, left)

  after_closed : (q : ℕ) → Next (Closed q)
  after_closed q = let left = has_left peer q (progress_of plan older).facts.peers in grind (arith, k, left)

  after_gone : (q : ℕ) → Next (Gone q)
  after_gone q = let left = has_left peer q (progress_of plan older).facts.peers in grind (arith, k, left)

known : (plan : Plan) (peer : ℕ) (h : History) → IsKnown peer h (progress_of plan h)
known plan peer [] = (refl, refl)
known plan peer (Accepted q which ∷ older) = after_accepted plan peer older (known plan peer older) q which
known plan peer (Heard q bytes ∷ older) = after_heard plan peer older (known plan peer older) q bytes
known plan peer (Closed q ∷ older) = after_closed plan peer older (known plan peer older) q
known plan peer (Gone q ∷ older) = after_gone plan peer older (known plan peer older) q
known plan peer (entry ∷ older) = after_kept plan peer older (known plan peer older) entry tt

first_has : (peer : ℕ) (left peers : List ℕ) (b : Bool) → peers ≡ peer ∷ left → implies (has peer peers) b ≡ true
    → b ≡ true
first_has peer left peers b e is = grind (arith, nat_tests, e, is)

-- the session that a place names first was not dialled
pub first_none : (plan : Plan) (n : ℕ) (h : History) → AreInOrder n h → (peer : ℕ) (left : List ℕ)
    → named (progress_of plan h).place ≡ peer ∷ left → kind_of peer h ≡ None
first_none plan n h o peer left e =
    (undialled n h peer o (first_has peer left (named (progress_of plan h).place) (has_come peer h) e
    (known plan peer h).1)).1

-- ---- the television's session
-- it was dialled, as one of CSS-CII
pub television_dialled : (plan : Plan) (n : ℕ) (h : History) → AreInOrder n h
    → IfSome (progress_of plan h).facts.television (λ peer. (peer < n) × (kind_of peer h ≡ Some kind.Cii))
television_dialled plan n [] o = tt
television_dialled plan n (Dialled k q ∷ older) o =
    let lt = o.0 in
    let is = television_dialled plan q older o.1 in grind (arith, nat_tests, lt, is)
television_dialled plan n (Accepted q k ∷ older) o =
    let lt = o.0 in
    let is = television_dialled plan q older o.1 in grind (arith, nat_tests, lt, is)
television_dialled plan n (entry ∷ older) o = let is = television_dialled plan n older o in grind (arith, is)
