-- What each session of a relay was told and is still to be told, over the calls of a proper run.
use Rattle.std.proofs.Common.{◌≡◌, ℕ, ◌≤◌, Bool, true, false, cond, eqb, List, [], ◌∷◌, ◌++◌, length, Option, Some}
use Rattle.std.proofs.Common.{None, refl, sym, ap, subst, ◌∙◌, arith, zero, suc}
use Rattle.std.specs.Prelude.{◌||◌, ◌&&◌, ⊤}
use Rattle.std.proofs.lemmas.Bool.{cond_both}
use Rattle.std.proofs.lemmas.Bool.Decides.{nat_tests}
use Rattle.css_cii.specs.declared.state.State.{State}
use Rattle.css_sessions.specs.Kept.{difference_text, full_text}
use Rattle.css_sessions.specs.Told.{latest, with_text}
use Rattle.css_drive.specs.TvTold.{lost, sent_to, is_gone}
use Rattle.css_drive.proofs.TvTold.{numbered_rest}
use Rattle.css_drive_relay.specs.Places.{Place, Facts, Progress, telling_if, without, opened_if, published, Welcomed}
use Rattle.css_drive_relay.specs.Places.{Dropping, Asked, progress_of, is_kept, refusal_of}
use Rattle.css_drive_relay.proofs.Follows.{waiting, text_at, IsToTell, Follows, Followed, followed, Fits, fits}
use Rattle.css_drive_relay.specs.Told.{SessionStates, with_state, while_open, texts_told, relayed, published_at, has}
use Rattle.css_drive_relay.specs.Told.{is_open, published_by, unless_refused, last_published, states_of}
use Rattle.css_drive_relay.specs.Told.{SessionsAreTold}
use Rattle.css_companion.specs.declared.fault.CompanionFault.{CompanionFault}
use Rattle.css_drive.specs.Proper.{Due, Ends}
use Rattle.css_drive.specs.TvRan.{AreBelow, AreNumbered}
use Rattle.css_drive.specs.declared.driven.Driven.{Driven}
use Rattle.css_model.specs.History.{Entry, History, Slept, Accepted, Sent, Heard, Closed, Wrote, Gone}
use Rattle.css_drive_relay.specs.declared.plan.Plan.{Plan}
use Rattle.css_model.specs.declared.Kind.{Kind}
use Rattle.css_drive_relay.specs.Places as places

-- ---- peers in a list
-- how often a peer stands in a list
abbrev pub count : ℕ → List ℕ → ℕ
count peer [] = 0
count peer (other ∷ peers) = cond (eqb other peer) (suc (count peer peers)) (count peer peers)

abbrev pub any : ℕ → Bool
any zero = false
any (suc n) = true

has_count : (peer : ℕ) (peers : List ℕ) → has peer peers ≡ any (count peer peers)
has_count peer [] = refl
has_count peer (p ∷ ps) = let ih = has_count peer ps in grind (arith, nat_tests, ih)

count_without : (peer other : ℕ) (peers : List ℕ)
    → count peer (without other peers) ≡ cond (eqb other peer) 0 (count peer peers)
count_without peer other [] = cond_both (eqb other peer) 0 0 (λ n. 0 ≡ n) (λ e. refl) (λ e. refl)
count_without peer other (p ∷ ps) = let ih = count_without peer other ps in grind (arith, nat_tests, ih)

count_last : (peer other : ℕ) (peers : List ℕ)
    → count peer (peers ++ other ∷ []) ≡ cond (eqb other peer) (suc (count peer peers)) (count peer peers)
count_last peer other [] = refl
count_last peer other (p ∷ ps) = let ih = count_last peer other ps in grind (arith, nat_tests, ih)

-- ---- what is still to be sent
-- a text so often
abbrev pub texts : ℕ → List ℕ → List (List ℕ)
texts zero text = []
texts (suc n) text = text ∷ texts n text

-- what is still to be sent to a peer
abbrev pub owed : ℕ → Progress → List (List ℕ)
owed peer p = texts (count peer (waiting p.place)) (text_at p.place p.facts)

none_owed : (peer : ℕ) (p : Progress) → waiting p.place ≡ [] → owed peer p ≡ []
none_owed peer p e = ap (λ xs. texts (count peer xs) (text_at p.place p.facts)) e

-- ---- what stands as the run goes on
-- these states of a session end with this one
abbrev pub IsCurrent : Option SessionStates → State → Type 0
IsCurrent states state = (s : SessionStates) × (states ≡ Some s) × (latest s.opening s.later ≡ state)

-- An open session was sent all that it was to be told, or all but a text that is owed to it. One that isn't open was
-- sent all, or all but a text that was told as gone.
pub data Tells (states : Option SessionStates) (state : State) (sent : List (List ℕ))
    : (gone : Bool) → (kept : ℕ) → (owed : List (List ℕ)) → Type 0 where
  Whole : IsCurrent states state → texts_told states ≡ sent → Tells states state sent false (suc zero) []
  Owed : IsCurrent states state → (text : List ℕ) → texts_told states ≡ text ∷ sent
      → Tells states state sent false (suc zero) (text ∷ [])
  Over : texts_told states ≡ sent → Tells states state sent false zero []
  Lost : (text : List ℕ) → texts_told states ≡ text ∷ sent → Tells states state sent true zero []

same : {states : Option SessionStates} {state s : State} {sent : List (List ℕ)} {gone : Bool} {kept n : ℕ}
    {owed texts : List (List ℕ)} → Tells states state sent gone kept owed → kept ≡ n → owed ≡ texts → state ≡ s
    → Tells states s sent gone n texts
same {states} {state} {s} {sent} {gone} {kept} {n} {owed} {texts} t e f g =
    subst (λ (m : ℕ). Tells states s sent gone m texts) e
    (subst (λ (xs : List (List ℕ)). Tells states s sent gone kept xs) f
    (subst (λ (x : State). Tells states x sent gone kept owed) g t))

-- it is opened, and so far it had no states
opens : {states : Option SessionStates} {state : State} {sent : List (List ℕ)} {gone : Bool} {kept : ℕ}
    → Tells states state sent gone kept [] → states ≡ None → (last : State) → state ≡ last
    → Tells (Some (record { opening = last; later = [] })) state sent gone (suc kept) (full_text state ∷ [])
opens (Whole c e) none last is = absurd (let some = c.1 in cc)
opens {sent = sent} (Lost text e) none last is =
    absurd (let f : [] ≡ text ∷ sent = sym (ap texts_told none) ∙ e in cc)
opens {state = state} (Over e) none last is =
    Owed (record { opening = last; later = [] }, refl, sym is) (full_text state)
    (ap (λ (s : State). full_text s ∷ []) (sym is)
    ∙ ap (λ xs. full_text state ∷ xs) (sym (ap texts_told none) ∙ e))

-- ---- sending
-- a text that is owed was sent
wrote : {states : Option SessionStates} {state : State} {sent : List (List ℕ)} {gone : Bool} {kept : ℕ} {text : List ℕ}
    {owed : List (List ℕ)} → Tells states state sent gone kept (text ∷ owed)
    → Tells states state (text ∷ sent) gone kept owed
wrote (Owed c text e) = Whole c e

-- or its session is gone
went : {states : Option SessionStates} {state : State} {sent : List (List ℕ)} {gone : Bool} {kept : ℕ} {text : List ℕ}
    {owed : List (List ℕ)} → Tells states state sent gone kept (text ∷ owed) → Tells states state sent true 0 owed
went (Owed c text e) = Lost text e

-- a session is over that was owed nothing
ends : {states : Option SessionStates} {state : State} {sent : List (List ℕ)} {gone : Bool} {kept : ℕ}
    → Tells states state sent gone kept [] → Tells states state sent gone 0 []
ends t = grind (arith, t, Over, Lost)

module _ {states : Option SessionStates} {state : State} {sent : List (List ℕ)} {gone : Bool} {kept : ℕ} where
  wrote_one : (same : Bool) (n : ℕ) (text : List ℕ)
      → Tells states state sent gone kept (texts (cond same (suc n) n) text)
      → Tells states state (with_text (cond same (Some text) None) sent) gone kept (texts n text)
  wrote_one true n text t = wrote t
  wrote_one false n text t = t

  went_one : (same : Bool) (n : ℕ) (text : List ℕ)
      → Tells states state sent gone kept (texts (cond same (suc n) n) text)
      → Tells states state sent (same || gone) (cond same 0 kept) (texts n text)
  went_one true n text t = went t
  went_one false n text t = t

  lost_one : (same : Bool) → Tells states state sent gone kept []
      → Tells states state sent gone (cond same 0 kept) []
  lost_one true t = ends t
  lost_one false t = t

-- ---- publishing
abbrev pub owed_by : Option (List ℕ) → ℕ → List (List ℕ)
owed_by None n = []
owed_by (Some text) n = texts n text

owed_published : (peer : ℕ) (f : Facts) (text : Option (List ℕ))
    → owed peer (record { facts = f; place = telling_if text f }) ≡ owed_by text (count peer f.peers)
owed_published peer f text = grind arith

publishes : {states : Option SessionStates} {sent : List (List ℕ)} {gone : Bool} {kept : ℕ} {state : State}
    → Tells states state sent gone kept [] → (s : State)
    → Tells (with_state (while_open (Some s) (any kept)) states) s sent gone kept
    (owed_by (difference_text state s) kept)
publishes t s = grind (arith, t, Whole, Owed, Over, Lost)

-- ---- what was published
after_state : (plan : Plan) (older : History) (entry : Entry)
    → (progress_of plan older).facts.state ≡ last_published plan older
    → (progress_of plan (entry ∷ older)).facts.state ≡ last_published plan (entry ∷ older)
after_state plan older entry was = grind (arith, was)

-- the state that was published last is the one that the run tells
state_is : (plan : Plan) (h : History) → (progress_of plan h).facts.state ≡ last_published plan h
state_is plan [] = refl
state_is plan (entry ∷ older) = after_state plan older entry (state_is plan older)

with_none : (state : Option State) → with_state state None ≡ None
with_none None = refl
with_none (Some state) = refl

-- a session that is to come has no states
none_yet : (plan : Plan) (peer : ℕ) (h : History) → AreBelow peer h → states_of plan peer h ≡ None
none_yet plan peer [] below = refl
none_yet plan peer (Accepted other k ∷ older) below =
    let lt = below.0 in
    let none = none_yet plan peer older below.1 in grind (arith, nat_tests, lt, none)
none_yet plan peer (Heard other bytes ∷ older) below =
    let now : Option State = while_open (published_by plan (Heard other bytes) older) (is_open plan peer older) in
    ap (with_state now) (none_yet plan peer older below) ∙ with_none now
none_yet plan peer (_ ∷ older) below = none_yet plan peer older below

-- ---- peers
-- what holds of a peer's session after a history
abbrev pub GoodAt : ℕ → Option SessionStates → History → Progress → Type 0
GoodAt peer states h p =
    Tells states p.facts.state (sent_to peer h) (is_gone peer h) (count peer p.facts.peers) (owed peer p)

abbrev pub Good : Plan → ℕ → History → Type 0
Good plan peer h = GoodAt peer (states_of plan peer h) h (progress_of plan h)

-- ---- places after a text
owes_told : (peer : ℕ) (place : Place) (f g : Facts) (text : List ℕ) → text_at place f ≡ text
    → texts (count peer (places.without_first (waiting place))) text
    ≡ owed peer (record { facts = g; place = places.told place g })
owes_told peer place f g text e = grind (arith, e)

gone_told : (place : Place) (f : Facts) (other : ℕ) → waiting place ≡ other ∷ places.without_first (waiting place)
    → places.gone other place f
    ≡ record { facts = places.lost other f; place = places.told place (places.lost other f) }
gone_told place f other e = grind (arith, e)

-- ---- an entry
-- it is of no session that was accepted
abbrev pub IsPassed : Entry → Type 0
IsPassed (Accepted peer kind) = ⊥
IsPassed (Heard peer bytes) = ⊥
IsPassed (Closed peer) = ⊥
IsPassed (Wrote peer text) = ⊥
IsPassed (Gone peer) = ⊥
IsPassed _ = ⊤

after_passed : (plan : Plan) (older : History) (entry : Entry) → IsPassed entry → (f : Facts) (place : Place)
    → Follows plan f place entry → let q : Progress = places.after plan entry older
    (record { facts = f; place = place }) in
    (waiting place ≡ []) × (q.facts.peers ≡ f.peers) × (q.facts.state ≡ f.state) × (waiting q.place ≡ [])
after_passed plan older entry is f place c = grind (arith, is, c)

module _ (plan : Plan) (peer : ℕ) (older : History) (t : Good plan peer older) where
  abbrev p : Progress
  p = progress_of plan older

  abbrev next : Entry → Progress
  next entry = progress_of plan (entry ∷ older)

  abbrev At : Progress → Type 0
  At = GoodAt peer (states_of plan peer older) older

  module _ (none : waiting p.place ≡ []) where
    idle : Tells (states_of plan peer older) p.facts.state (sent_to peer older) (is_gone peer older)
        (count peer p.facts.peers) []
    idle = same t refl (none_owed peer p none) refl

    -- the same sessions and the same state, with nothing to be sent
    stays : (q : Progress) → q.facts.peers ≡ p.facts.peers → q.facts.state ≡ p.facts.state → waiting q.place ≡ [] → At q
    stays q peers state now = same idle (ap (count peer) (sym peers)) (sym (none_owed peer q now)) (sym state)

    -- one session is over
    loses : (other : ℕ) (place : Place) → waiting place ≡ []
        → At (record { facts = places.lost other p.facts; place = place })
    loses other place now =
        same (lost_one (eqb other peer) idle) (sym (count_without peer other p.facts.peers))
        (sym (none_owed peer (record { facts = places.lost other p.facts; place = place }) now)) refl

    after_closed : (other : ℕ) (place : Place) → waiting place ≡ [] → At (places.closed other place p.facts)
    after_closed other (Asked left) e = loses other (Asked (places.without_first left)) refl
    after_closed other (Welcomed q) e = stays (places.closed other (Welcomed q) p.facts) refl refl refl
    after_closed other place e = stays (places.closed other place p.facts) refl refl e

    after_heard : (other : ℕ) (bytes : List ℕ) (place : Place) → waiting place ≡ []
        → GoodAt peer (with_state (while_open (published_at plan other bytes older place) (has peer p.facts.peers))
        (states_of plan peer older)) older (places.heard plan other bytes older place p.facts)
    after_heard other bytes (Welcomed q) e = told (refusal_of (Some bytes) older)
      where
        state : State
        state = relayed plan (Heard other bytes ∷ older)

        -- the text of the television is refused, or what the relay tells after it is published
        told : (refusal : Option CompanionFault)
            → GoodAt peer (with_state (while_open (unless_refused refusal state) (has peer p.facts.peers))
            (states_of plan peer older)) older (places.television_told refusal state p.facts)
        told (Some fault) = stays (places.television_told (Some fault) state p.facts) refl refl refl
        told None =
            subst (λ (b : Bool). GoodAt peer (with_state (while_open (Some state) b) (states_of plan peer older)) older
            (published state p.facts)) (sym (has_count peer p.facts.peers)) (same (publishes idle state) refl
            (sym (owed_published peer (record p.facts { state = state }) (difference_text p.facts.state state))) refl)
    after_heard other bytes (Asked left) e = loses other (Dropping other (places.without_first left)) refl
    after_heard other bytes place e = stays (places.heard plan other bytes older place p.facts) refl refl e

    -- a session was accepted, and is kept or not
    kept_last : (other : ℕ) (b : Bool) → eqb other peer ≡ b
        → cond b (suc (count peer p.facts.peers)) (count peer p.facts.peers)
        ≡ count peer (p.facts.peers ++ other ∷ [])
    kept_last other b is =
        sym (count_last peer other p.facts.peers
        ∙ ap (λ x. cond x (suc (count peer p.facts.peers)) (count peer p.facts.peers)) is)

    opened : (other : ℕ) (k : Kind) (same kept : Bool) → AreBelow other older → eqb other peer ≡ same
        → GoodAt peer (cond (same && kept) (Some (record { opening = last_published plan older; later = [] }))
        (states_of plan peer older)) older (opened_if kept other p.facts)
    opened other k true true below is =
        same (opens idle (none_yet plan peer older (subst (λ (n : ℕ). AreBelow n older) (grind (arith, nat_tests, is))
        below)) (last_published plan older) (state_is plan older)) (kept_last other _ is)
        (sym (ap (λ b. texts (cond b 1 0) (full_text p.facts.state)) is)) refl
    opened other k false true below is =
        same idle (kept_last other _ is) (sym (ap (λ b. texts (cond b 1 0) (full_text p.facts.state)) is)) refl
    opened other k true false below is = idle
    opened other k false false below is = idle

  -- what is owed, where this text is to be sent to this session
  due : (other : ℕ) (text : List ℕ) → IsToTell p.facts p.place other text
      → let left = count peer (places.without_first (waiting p.place)) in
      Tells (states_of plan peer older) p.facts.state (sent_to peer older) (is_gone peer older)
      (count peer p.facts.peers) (texts (cond (eqb other peer) (suc left) left) text)
  due other text c =
      same t refl (ap (λ xs. texts (count peer xs) (text_at p.place p.facts)) c.0 ∙ ap (texts _) c.1) refl

  after_gone : (other : ℕ) (text : List ℕ) → IsToTell p.facts p.place other text → Good plan peer (Gone other ∷ older)
  after_gone other text c =
      let g : Facts = places.lost other p.facts in
      subst (λ (q : Progress). GoodAt peer (states_of plan peer older) (Gone other ∷ older) q)
      (sym (gone_told p.place p.facts other c.0))
      (same (went_one (eqb other peer) _ text (due other text c)) (sym (count_without peer other p.facts.peers))
      (owes_told peer p.place p.facts g text c.1) refl)

  -- an entry of no session that was accepted
  passes : (entry : Entry) → IsPassed entry → Follows plan p.facts p.place entry → At (next entry)
  passes entry is c =
      let x = after_passed plan older entry is p.facts p.place c in stays x.0 (next entry) x.1 x.2 x.3

  after : (entry : Entry) → Follows plan p.facts p.place entry → AreNumbered (entry ∷ older)
      → Good plan peer (entry ∷ older)
  after (Accepted other k) c n =
      opened c.0 other k (eqb other peer) (is_kept k (length p.facts.peers)) n.0 refl
  after (Heard other bytes) c n = after_heard c.0 other bytes p.place c.0
  after (Closed other) c n = after_closed c.0 other p.place c.0
  after (Wrote other text) c n =
      same (wrote_one (eqb other peer) _ text (due other text c)) refl
      (owes_told peer p.place p.facts p.facts text c.1) refl
  after (Gone other) c n = after_gone other c.0 c.1
  after Slept c n = passes Slept tt c
  after (Sent other bytes) c n = passes (Sent other bytes) tt c
  after entry c n = passes entry tt c

-- ---- the run
all_good : (plan : Plan) (peer : ℕ) (h : History) → Followed plan h → AreNumbered h → Good plan peer h
all_good plan peer [] each numbered = Over refl
all_good plan peer (entry ∷ older) each numbered =
    after plan peer older (all_good plan peer older each.1 (numbered_rest entry older numbered)) entry each.0
    numbered

-- where the end is due nothing is owed
ended_waits : (plan : Plan) (f : Facts) (place : Place) (ended : Driven) → Fits plan f place (Ends ended)
    → waiting place ≡ []
ended_waits plan f place ended c = grind (arith, c)

-- what is unsent
unsent_of : {states : Option SessionStates} {state : State} {sent : List (List ℕ)} {gone : Bool} {kept : ℕ}
    {owed : List (List ℕ)} → Tells states state sent gone kept owed
    → (unsent : List (List ℕ)) × (texts_told states ≡ unsent ++ sent) × (length unsent ≤ 1)
    × (owed ≡ [] → length unsent ≤ lost gone)
unsent_of (Whole c e) = ([], e, omega arith, λ none. omega arith)
unsent_of (Owed c text e) = (text ∷ [], e, omega arith, λ none. absurd (cc))
unsent_of (Over e) = ([], e, omega arith, λ none. omega arith)
unsent_of (Lost text e) = (text ∷ [], e, omega arith, λ none. omega arith)

pub sessions_are_told : SessionsAreTold
sessions_are_told plan h proper numbered peer =
    let p : Progress = progress_of plan h in
    let u = unsent_of (all_good plan peer h (followed plan h proper) numbered) in
    record {
      unsent = u.0;
      first = u.1;
      few = u.2;
      ended = λ ended e. u.3 (none_owed peer p (ended_waits plan p.facts p.place ended
          (subst (λ (d : Due). Fits plan p.facts p.place d) e (fits plan p.facts h p.place))));
    }
