-- How a relay's run goes on by a call that is due, which sessions it knows then, what its dials, requests, landings,
-- answers and sessions make of it, and how it ends.
use Rattle.std.proofs.Common.{◌≡◌, ℕ, ◌≤◌, ◌<◌, arith, ap, ◌∙◌, refl, Bool, true, false, cond, List, [], ◌∷◌, ◌++◌}
use Rattle.std.proofs.Common.{take, Option, Some, None, ◌+◌, sym, subst, ◌||◌, inl, inr, Result, Ok, Err}
use Rattle.css_drive_relay.specs.Places.{at, Facts, Progress, next_asked, telling_if, Place, after, progress_of, Begun}
use Rattle.css_drive_relay.specs.Places.{Called, after_dial, after_clock, Asked, beginning, with_turn, Taken, Received}
use Rattle.css_drive_relay.specs.Places.{Served, received, answering, Welcomed, welcomed, published, television_told}
use Rattle.css_drive_relay.specs.Places.{is_kept, opened_if, refusal_of}
use Rattle.std.specs.Prelude.{is_some, ◌⊎◌, unwrap_or, MatchResult, IfSome, length}
use Rattle.std.proofs.lemmas.Bool.Decides.{nat_tests}
use Rattle.css_model.specs.declared.Kind.{Kind}
use Rattle.css_model.specs.declared.Failure.{Failure}
use Rattle.css_model.specs.History.{Dialled, Accepted, History, Entry, Slept, Clock, Address, Dialling, NotDialled}
use Rattle.css_model.specs.History.{Closed, Gone, Heard, Sent, request_in, NoneCame, accepted_answers, asking_at}
use Rattle.css_model.specs.History.{is_sleep, landed_answer, request_by, Took}
use Rattle.css_companion.specs.Meanings.{kind_of, opens_ts, is_ts, cii_text, closes_ts, ts_text}
use Rattle.css_drive_relay.specs.Standing.{AreInOrder, Knows, Runs, Stops, HasRead, facts_in, stood, Stands, IsAt}
use Rattle.css_drive_relay.specs.Standing.{IsStop, Stays, visiting}
use Rattle.css_model.specs.declared.Why.{Why}
use Rattle.css_model.specs.Explains.{IsLawful}
use Rattle.css_outside.specs.Outsides.{Counts, with_entries, clock_entries, sleep_entries}
use Rattle.css_outside.specs.declared.calls.Clocked.{Clocked}
use Rattle.css_agree.specs.Keeping.{Kept}
use Rattle.css_relay.specs.Agreeing.{Agrees, IsAgreementOf}
use Rattle.css_relay.specs.Lending.{with_companion}
use Rattle.css_relay.specs.Relays.{Relay, StandsFor, relayed_state}
use Rattle.css_drive.specs.CompanionStanding as companions
use Rattle.css_drive.specs.CompanionStanding.{Shown, Adds, Fails, asked_after, HasDialled, dial_entries, IsFault}
use Rattle.css_drive.specs.CompanionStanding.{IsRefusal}
use Rattle.css_drive.specs.Ends.{MayEnd, CountsNetFault}
use Rattle.css_drive.specs.Proper.{Due, Now, MayAdd, More, Dial, Ends, Empty, TakeDatagram}
use Rattle.css_drive.specs.declared.driven.Driven.{Driven}
use Rattle.css_drive.proofs.CompanionSteps.{told_more, counts_same, fault_ends, own_quiet, IsOwn, knows_plain}
use Rattle.css_drive.proofs.CompanionSteps.{knows_tried, lawful_plain, refusal_own}
use Rattle.css_drive_relay.specs.Due.{due_at, due_for, final, from_taken, is_left}
use Rattle.css_drive_relay.specs.declared.live.Live.{Live}
use Rattle.css_drive_relay.specs.declared.sessions.Visit.{Visit}
use Rattle.css_drive_relay.specs.declared.plan.Plan.{Plan}
use Rattle.css_drive.specs.CompanionDue.{place}
use Rattle.css_cii.specs.declared.state.State.{State}
use Rattle.css_drive.specs.CompanionTurns.{goes_on, is_late}
use Rattle.css_drive.proofs.CompanionEnds.{never_late, no_entries}
use Rattle.css_outside.specs.Limits.{IsLimit, most_turns}
use Rattle.css_outside.specs.declared.limit.Limit.{Limit}
use Rattle.css_model.specs.WallClock.{Local}
use Rattle.css_companion.specs.Standing.{Companion, own_of}
use Rattle.css_companion.specs.declared.binding.Binding.TheVariants.{WallClock}
use Rattle.css_companion.specs.declared.config.CompanionConfig.{CompanionConfig}
use Rattle.css_drive.specs.declared.companion_live.Live.{Live as Own}
use Rattle.css_relay.specs.Answers.{Ticket, received_after, answered_after, datagram_of}
use Rattle.css_relay.specs.declared.fault.RelayFault.{RelayFault}
use Rattle.css_sessions.specs.Kept.{difference_text}
use Rattle.css_companion.specs.declared.fault.CompanionFault.{CompanionFault}
use Rattle.css_drive_relay.specs.Told.{relayed}
use Rattle.css_model.specs.declared.Kind.TheVariants as kind
use Rattle.css_drive.specs.declared.driven.Driven.TheVariants as driven
use Rattle.css_model.specs.declared.Why.TheVariants as why
use Rattle.css_drive_relay.specs.Places as places
use Rattle.css_drive_relay.proofs.Peers as peers
use Rattle.css_drive_relay.proofs.Peers.{named}
use Rattle.css_outside.specs.declared.calls.Heard.TheVariants as session

-- ---- what the relay knows
pub lawful : {plan : Plan} {relay : Relay} {history : History} → Knows plan relay history → IsLawful history
lawful k = k.companion.stands.client.lawful

-- entries that tell it nothing, and bring no peer
abbrev pub IsAside : History → Entry → Type 0
IsAside h Slept = ⊥
IsAside h (Clock why.Ask reading) = ⊥
IsAside h (Clock why.Land reading) = ⊥
IsAside h (Dialled k peer) = ⊥
IsAside h (Accepted peer k) = ⊥
IsAside h (Sent peer bytes) = request_in bytes ≡ None
IsAside h (Heard peer bytes) = kind_of peer h ≡ None
IsAside h (Closed peer) = is_ts (kind_of peer h) ≡ false
IsAside h (Gone peer) = is_ts (kind_of peer h) ≡ false
IsAside h _ = Unit {0}

tells_none : (h : History) (entry : Entry) → IsAside h entry
    → (is_sleep entry ≡ false) × (asking_at entry ≡ None) × (request_by entry ≡ None) × (landed_answer entry h ≡ None)
    × (cii_text entry h ≡ None) × (ts_text entry h ≡ None) × ((opens_ts entry || closes_ts entry h) ≡ false)
tells_none h entry is = grind (arith, is)

-- and no answer
counts_aside : (own : Local) (h : History) (entry : Entry) → IsAside h entry
    → accepted_answers own (entry ∷ h) ≡ accepted_answers own h
counts_aside own h entry is = grind (arith, is)

-- nor does a reading that may tell a sleep, after which no answer counts
pub agrees_asleep : (own : Local) (agree : Kept) (h : History) (slept : Bool) → Agrees own agree h
    → Agrees own agree (sleep_entries slept ++ h)
agrees_asleep own agree h true a = record { local = a.local; stands = inl refl }
agrees_asleep own agree h false a = a

module _ {plan : Plan} {relay : Relay} {history : History} (k : Knows plan relay history) where
  -- what its companion learns, and what its answers are then
  pub learns : {is : Companion} {later : History} → ((own : CompanionConfig)
      → companions.KnowsUnder WallClock own relay.companion history → companions.KnowsUnder WallClock own is later)
      → (Agrees plan.run.companion.local relay.agree history → Agrees plan.run.companion.local relay.agree later)
      → Knows plan (with_companion relay is) later
  learns learn agrees =
      record { companion = learn plan.run.companion k.companion; wc_url = k.wc_url; agrees = agrees k.agrees }

  pub aside : (entry : Entry) → IsAside history entry → Knows plan relay (entry ∷ history)
  aside entry is = record {
    companion = let x = tells_none history entry is in
        knows_plain entry k.companion x.0 x.1 x.2 x.3 x.4 x.5 x.6;
    wc_url = k.wc_url;
    agrees = subst (IsAgreementOf plan.run.companion.local relay.agree)
        (sym (counts_aside plan.run.companion.local history entry is)) k.agrees;
  }

pub knows_read : {now next : Shown} {live later : Live} {w : Why} {clocked : Clocked} {plan : Plan} {h : History}
    → HasRead now next live later w clocked → Knows plan live.relay h
    → Knows plan later.relay (sleep_entries clocked.slept ++ h)
knows_read {live = live} {later} {clocked = clocked} {plan} {h} r k =
    subst (λ (x : Live). Knows plan x.relay (sleep_entries clocked.slept ++ h)) (sym r.rest)
    (learns k (λ own. r.read.known own h) (agrees_asleep plan.run.companion.local live.relay.agree h clocked.slept))

still : (n : ℕ) (h : History) (entry : Entry) → IsAside h entry → AreInOrder n h → AreInOrder n (entry ∷ h)
still n h entry is o = grind (arith, is, o)

-- ---- a fault
fault_kind : (ended : Driven) → IsFault ended → IsStop ended
fault_kind ended f = grind (arith, f)

-- the run ends, and unless a fault ends it, the variables are those of its calls
stops_so : {plan : Plan} {start now next : Shown} {live : Live} {p : Progress} {history : History} {ended : Driven}
    → Runs plan start now p history → IsLawful history → next.told ≡ now.told
    → CountsNetFault now.counts.faults next.counts.faults ended → IsFault ended ⊎ (facts_in live ≡ p.facts)
    → IsStop ended → MayEnd (due_for plan history p) ended → Stops plan start next live ended
stops_so {plan} {start} {now} {next} {live} {p} {history} {ended} s l told counted known kind ends = record {
  history = history;
  told = told ∙ s.told;
  visited = λ hung. record {
    proper = s.proper;
    lawful = l;
    numbered = s.numbered;
    ends = subst (λ (x : Progress). MayEnd (due_for plan history x) ended) (sym s.progress) ends;
  };
  counted = subst (λ (n : ℕ). CountsNetFault n next.counts.faults ended) s.faults counted;
  kind = kind;
  known = subst (λ (x : Progress). IsFault ended ⊎ (facts_in live ≡ x.facts)) (sym s.progress) known;
}

-- a call of the outside failed, so the run ends
pub stops_by_fault : {plan : Plan} {start now next : Shown} {live : Live} {p : Progress} {history : History}
    {ended : Driven} → Runs plan start now p history → IsLawful history → Fails now next None ended
    → Stops plan start next live ended
stops_by_fault {plan} {p = p} {history} {ended} s l f =
    stops_so s l f.told f.counted (inl f.end) (fault_kind ended f.end)
    (fault_ends (due_for plan history p) ended f.end)

-- ---- a call that is due
-- the run came to this history
pub here : {plan : Plan} {start now : Shown} {relay : Relay} {history : History} {p : Progress}
    → Stands plan start now relay p history → (h : History) × Stands plan start now relay p h
here {history = history} s = (history, s)

-- the facts are the same
pub stands_with : {plan : Plan} {start now : Shown} {relay : Relay} {history : History} {f g : Facts}
    (to : Facts → Place) → f ≡ g → Stands plan start now relay (record { facts = g; place = to g }) history
    → Stands plan start now relay (record { facts = f; place = to f }) history
stands_with {plan} {start} {now} {relay} {history} to e s =
    subst (λ (x : Facts). Stands plan start now relay (record { facts = x; place = to x }) history) (sym e) s

-- the same, seen as another progress
pub stands_as : {plan : Plan} {start now : Shown} {relay : Relay} {p : Progress} {history : History}
    → Stands plan start now relay p history → (q : Progress) → p ≡ q → Stands plan start now relay q history
stands_as {plan} {start} {now} {relay} {history = history} s q e =
    subst (λ x. Stands plan start now relay x history) e s

pub may_as : {d e : Due} → d ≡ e → (call : History) → MayAdd e call → MayAdd d call
may_as is call = subst (λ (x : Due). MayAdd x call) (sym is)

module _ {plan : Plan} {start now next : Shown} {p : Progress} {history : History} where
  -- its entries are added
  pub runs_more : Runs plan start now p history → (call : History) → MayAdd (due_for plan history p) call
      → next.told ≡ with_entries call now.told → next.counts.faults ≡ now.counts.faults
      → (q : Progress) → progress_of plan (call ++ history) ≡ q
      → AreInOrder (next.counts.peers + 1) (call ++ history) → Runs plan start next q (call ++ history)
  runs_more s call may told faults q progress ordered = record {
    told = told_more start.told now.told next.told call history s.told told;
    faults = faults ∙ s.faults;
    proper = More call (may_as (ap (due_for plan history) s.progress) call may) s.proper;
    progress = progress;
    ordered = ordered;
    numbered = (peers.numbered _ (next.counts.peers + 1) (call ++ history) ordered (omega arith)).1;
  }

  -- one entry is added
  pub runs_on : Runs plan start now p history → (entry : Entry) → MayAdd (due_for plan history p) (entry ∷ [])
      → (AreInOrder (now.counts.peers + 1) history → AreInOrder (now.counts.peers + 1) (entry ∷ history))
      → Adds now next (entry ∷ []) → Runs plan start next (after plan entry history p) (entry ∷ history)
  runs_on s entry may in_order a =
      runs_more s (entry ∷ []) may a.told (ap {A = Counts} (λ x. x.faults) a.same) (after plan entry history p)
      (ap (after plan entry history) s.progress)
      (subst (λ (x : Counts). AreInOrder (x.peers + 1) (entry ∷ history)) (sym a.same) (in_order s.ordered))

module _ {plan : Plan} {start now : Shown} {relay : Relay} {p : Progress} {history : History}
    (s : Stands plan start now relay p history) (entry : Entry) (may : MayAdd (due_for plan history p) (entry ∷ []))
    (is : IsAside history entry) where
  -- and it tells the relay nothing
  pub stands_on : {next : Shown} → Adds now next (entry ∷ [])
      → Stands plan start next relay (after plan entry history p) (entry ∷ history)
  stands_on a = record {
    runs = runs_on s.runs entry may (still (now.counts.peers + 1) history entry is) a;
    knows = aside s.knows entry is;
  }

  -- or the call failed, and a function ends with it
  pub made : (next : Shown) (live : Live) (result : Result (Unit {0}) Driven)
      → MatchResult result (λ _. Adds now next (entry ∷ [])) (Fails now next None)
      → MatchResult result (λ _. (h : History) × Stands plan start next relay (after plan entry history p) h)
      (Stops plan start next live)
  made next live (Ok done) a = (_, stands_on a)
  made next live (Err ended) f = stops_by_fault s.runs (lawful s.knows) f

-- a datagram was taken
pub taken : {plan : Plan} {start now next : Shown} {relay : Relay} {p : Progress} {history : History}
    → Stands plan start now relay p history → due_for plan history p ≡ TakeDatagram → (room : List ℕ) (peer n : ℕ)
    → Adds now next (Took peer (take n room) ∷ [])
    → Stands plan start next relay (at (Taken peer (take n room)) p) (Took peer (take n room) ∷ history)
taken s d room peer n a =
    let took = Took peer (take n room) in
    stands_on s took (may_as d (took ∷ []) (room, Some (peer, n), refl)) tt a

-- ---- the clock
pub read_facts : {now next : Shown} {live later : Live} {w : Why} {clocked : Clocked}
    → HasRead now next live later w clocked
    → facts_in later ≡ record (facts_in live) { asked = asked_after clocked.slept live.own.asked }
read_facts {live = live} {later} {clocked = clocked} r =
    ap (λ x. facts_in x) r.rest
    ∙ ap {A = Own} {B = Facts} (λ x. facts_in (record live { own = x; relay = later.relay })) r.read.only

module _ {plan : Plan} {start now next : Shown} {live later : Live} {place : Place} {history : History} {w : Why}
    {clocked : Clocked} where
  pub runs_read : Runs plan start now (stood live place) history → due_at plan (facts_in live) history place ≡ Now w
      → HasRead now next live later w clocked → (q : Progress)
      → after_clock plan w clocked.reading (sleep_entries clocked.slept ++ history) (stood later place) ≡ q
      → Runs plan start next q (clock_entries w clocked ++ history)
  runs_read s is-due r q goes =
      let was = s.progress in
      let facts = read_facts r in
      let ordered = s.ordered in
      let peers = r.read.peers in
      runs_more s (clock_entries w clocked) (may_as is-due (clock_entries w clocked) (clocked, refl)) r.read.told
      r.read.faults q (grind (arith, was, facts, goes)) (grind (arith, ordered, peers))

  -- and neither for a request nor for a landing
  pub stands_read : Stands plan start now live.relay (stood live place) history
      → due_at plan (facts_in live) history place ≡ Now w
      → IsAside (sleep_entries clocked.slept ++ history) (Clock w clocked.reading)
      → HasRead now next live later w clocked → (q : Progress)
      → after_clock plan w clocked.reading (sleep_entries clocked.slept ++ history) (stood later place) ≡ q
      → Stands plan start next later.relay q (clock_entries w clocked ++ history)
  stands_read s is-due none r q goes = record {
    runs = runs_read s.runs is-due r q goes;
    knows = aside (knows_read r s.knows) (Clock w clocked.reading) none;
  }

-- ---- ends
-- the end is due
pub stops_here : {plan : Plan} {start now : Shown} {live : Live} {p : Progress} {history : History}
    → Runs plan start now p history → IsLawful history → (ended : Driven) → IsFault ended ⊎ (facts_in live ≡ p.facts)
    → IsStop ended → IsOwn ended → MayEnd (due_for plan history p) ended → Stops plan start now live ended
stops_here {now = now} s l ended known kind own ends =
    stops_so s l refl (counts_same now.counts.faults now.counts.faults ended (own_quiet ended own) refl) known kind ends

-- memory is wanting
pub stops_by_memory : {plan : Plan} {start now : Shown} {live : Live} {p : Progress} {history : History}
    → Runs plan start now p history → IsLawful history → (ended : Driven) → ended ≡ driven.Memory
    → Stops plan start now live ended
stops_by_memory {plan} {start} {now} {live} s l ended e =
    subst (λ (x : Driven). Stops plan start now live x) (sym e) (stops_here s l driven.Memory (inl tt) tt tt tt)

-- ---- dials
-- how far the run is once a dial was tried
abbrev pub called : Kind → Result ℕ Failure → Facts → Progress
called k (Err failure) f = record { facts = f; place = Called k }
called k (Ok peer) f = record { facts = after_dial k peer f; place = Called k }

module _ (live : Live) {plan : Plan} {start now : Shown} {relay : Relay} {history : History} {at : Place}
    (s : Stands plan start now relay (stood live at) history) where
  pub dialled : {next : Shown} (k : Kind) (to : Address) → due_at plan (facts_in live) history at ≡ Dial k to
      → ((q : ℕ) → opens_ts (Dialled k q) ≡ false) → (tried : Result ℕ Failure) → HasDialled now next k to tried
      → Stands plan start next relay (called k tried (facts_in live)) (dial_entries k to tried ++ history)
  dialled {next} k to is-due opens (Err failure) d = record {
    runs = runs_more s.runs (NotDialled k failure ∷ Dialling k to ∷ []) (may_as is-due
        (NotDialled k failure ∷ Dialling k to ∷ []) (inr (failure, refl))) d.told d.faults
        (called k (Err failure) (facts_in live))
        (ap (λ (p : Progress). after plan (NotDialled k failure) (Dialling k to ∷ history) p) s.runs.progress)
        (let later = d.later in
        peers.in_order_later _ (next.counts.peers + 1) history s.runs.ordered (omega (arith, later)));
    knows = record {
      companion = knows_tried k to (Err failure) tt s.knows.companion;
      wc_url = s.knows.wc_url;
      agrees = s.knows.agrees;
    };
  }
  dialled {next} k to is-due opens (Ok q) d =
      let lt = d.peer.0 in
      let le = d.peer.1 in
      record {
        runs = runs_more s.runs (Dialled k q ∷ Dialling k to ∷ []) (may_as is-due (Dialled k q ∷ Dialling k to ∷ [])
            (inl (q, refl))) d.told d.faults (called k (Ok q) (facts_in live))
            (ap (λ (p : Progress). after plan (Dialled k q) (Dialling k to ∷ history) p) s.runs.progress)
            (omega (arith, le), peers.in_order_later _ q history s.runs.ordered (omega (arith, lt)));
        knows = record {
          companion = knows_tried k to (Ok q) (opens q) s.knows.companion;
          wc_url = s.knows.wc_url;
          agrees = s.knows.agrees;
        };
      }

-- ---- loops
-- these sessions are left to be visited
pub visits : {plan : Plan} {start now : Shown} (live : Live) (what : Visit) {left rest : List ℕ}
    → IsAt (visiting what left) plan start now live → left ≡ rest → IsAt (visiting what rest) plan start now live
visits {plan} {start} {now} live what x e =
    subst (λ (peers : List ℕ). IsAt (visiting what peers) plan start now live) e x

pub keeps_on : {T : Type 0} {old mid new : Counts} {before between now : Own} {was midway is : Companion}
    {result : Result T Driven} → Stays old mid before between was midway (Ok (tt {0}))
    → Stays mid new between now midway is result → Stays old new before now was is result
keeps_on {old = old} {mid} {new} a b = record {
  made = b.made ∙ a.made;
  dialled = λ e. a.dialled (b.dialled e);
  dials = omega (arith, a.dials, b.dials);
  floor = λ le. b.floor (a.floor le);
  early = b.early;
}

-- ---- the beginning
pub at_first : (plan : Plan) (now : Shown) → Runs plan now now (beginning plan.begun) []
at_first plan now = record {
  told = no_entries now.told;
  faults = refl;
  proper = Empty;
  progress = refl;
  ordered = tt;
  numbered = tt;
}

pub begins : (plan : Plan) (now : Shown) (live : Live) → Knows plan live.relay []
    → facts_in live ≡ (beginning plan.begun).facts → Stands plan now now live.relay (stood live (Asked [])) []
begins plan now live k e = stands_with (λ f. Asked []) e (record { runs = at_first plan now; knows = k })

-- ---- turns
some_turns : (limit : Limit) → IsLimit limit → 1 ≤ most_turns limit
some_turns limit range = grind (arith, range)

-- the turns are over only once one was begun
pub was_begun : (limit : Limit) → IsLimit limit → (first this : Option ℕ) (made : ℕ)
    → IfSome first (λ x. 1 ≤ made) → goes_on limit first this made ≡ false → 1 ≤ made
was_begun limit range (Some first) this made some over = some
was_begun limit range None this made some over =
    let least = some_turns limit range in grind (arith, nat_tests, over, least)

-- a visit that was cut short began one
pub some_made : (plan : Plan) (f : Facts) → IfSome f.first (λ x. 1 ≤ f.turns) → (f.parting ≡ None) ⊎ (1 ≤ f.turns)
    → is_left plan f ≡ false → 1 ≤ f.turns
some_made plan f begun made none =
    let least = was_begun plan.run.limit plan.run.limit_range f.first f.turn f.turns begun in
    grind (arith, made, none, least)

-- no turn is left, so the run ends
pub over : {plan : Plan} {start now : Shown} {live : Live} {history : History}
    → Stands plan start now live.relay (stood live (Asked [])) history → is_left plan (facts_in live) ≡ false
    → (ended : Driven) → ended ≡ final plan (facts_in live) → Stops plan start now live ended
over {plan} {start} {now} {live} s none ended e =
    let d : Driven = final plan (facts_in live) in
    subst (λ (x : Driven). Stops plan start now live x) (sym e) (stops_here s.runs (lawful s.knows) d (inr refl)
    (grind arith) (grind arith)
    (subst (λ (b : Bool). MayEnd (cond b (Now why.Turn) (Ends d)) d) (sym none) (grind arith)))

-- an unreachable one reached nobody
pub unreached : (plan : Plan) (f : Facts) (turns : ℕ) → driven.Unreachable turns ≡ final plan f
    → (plan.begun.reached ≡ false) × (f.cii ≡ None)
unreached plan f turns e = grind (arith, e)

-- the first turn isn't the last by its time
pub was_second : (limit : Limit) → IsLimit limit → (first : Option ℕ) (made reading : ℕ)
    → IfSome first (λ x. 1 ≤ made) → is_late limit (Some (unwrap_or first reading)) (Some reading) ≡ true → 1 ≤ made
was_second limit range (Some first) made reading some last = some
was_second limit range None made reading none last =
    absurd (never_late limit (Some reading) (Some reading) range refl last)

-- the turn's reading was told, and it is the last by its time or isn't
pub begun : {plan : Plan} {start now next : Shown} {live later : Live} {history : History} {f : Facts}
    {late last : Bool} {clocked : Clocked} → Stands plan start now live.relay (stood live (Asked [])) history
    → is_left plan (facts_in live) ≡ true → HasRead now next live later why.Turn clocked
    → f ≡ with_turn clocked.reading (facts_in later) → late ≡ is_late plan.run.limit f.first f.turn → late ≡ last
    → Stands plan start next later.relay (record { facts = f; place = cond last (Asked []) Begun })
    (clock_entries why.Turn clocked ++ history)
begun {plan} {live = live} {later} {history} {f} {clocked = clocked} s on r e late is =
    stands_as (stands_with (places.begun plan) e
    (stands_read s
    (ap (λ b. cond b (Now why.Turn) (Ends (final plan (facts_in live)))) on) tt r _ refl)) _
    (ap {B = Progress} (λ b. record { facts = f; place = cond b (Asked []) Begun }) (sym late ∙ is))

-- ---- requests of others
-- what the relay made of what it knew is what its own clock gives after the history
known_as : {plan : Plan} (later : Live) {is : Relay} {h : History} {R : Type 0} (of : Local → History → R)
    (to : R → Place) {result : R} → Knows plan is h
    → ((h : History) → StandsFor is.companion h → result ≡ of (own_of is.companion) h)
    → ◌≡◌ {A = Progress} (stood later (to (of plan.run.companion.local h))) (stood later (to result))
known_as later {h = h} of to k value =
    ap (λ own. stood later (to (of own h))) (sym k.companion.local)
    ∙ ap (λ x. stood later (to x)) (sym (value h k.companion.stands))

module _ {plan : Plan} {start now mid : Shown} {live later : Live} {history : History} {clocked : Clocked} where
  pub receives : {peer : ℕ} {bytes : List ℕ}
      → Stands plan start now live.relay (stood live (Taken peer bytes)) history
      → is_some (request_in bytes) ≡ true → HasRead now mid live later why.Take clocked
      → (result : Result Ticket RelayFault)
      → ((h : History) → StandsFor later.relay.companion h
      → result ≡ received_after (own_of later.relay.companion) h clocked.reading bytes)
      → Stands plan start mid later.relay (stood later (received peer result))
      (clock_entries why.Take clocked ++ history)
  receives {peer} {bytes} s some r result value =
      stands_read s (ap from_taken some) tt r (stood later (received peer result))
      (known_as later (λ own h. received_after own h clocked.reading bytes) (received peer)
      (knows_read r s.knows) value)

  pub answers : {peer : ℕ} {ticket : Ticket}
      → Stands plan start now live.relay (stood live (Received peer ticket)) history
      → HasRead now mid live later why.Give clocked → (result : Result (List ℕ) RelayFault)
      → ((h : History) → StandsFor later.relay.companion h
      → result ≡ datagram_of (answered_after (own_of later.relay.companion) h clocked.reading ticket))
      → Stands plan start mid later.relay (stood later (answering peer result))
      (clock_entries why.Give clocked ++ history)
  answers {peer} {ticket} s r result value =
      stands_read s refl tt r (stood later (answering peer result))
      (known_as later (λ own h. datagram_of (answered_after own h clocked.reading ticket)) (answering peer)
      (knows_read r s.knows) value)

-- ---- sessions that others open
module _ (live : Live) {plan : Plan} {start now next : Shown} {history : History} {relay : Relay}
    (s : Stands plan start now relay (stood live Served) history)
    (faults : next.counts.faults ≡ now.counts.faults) where
  pub none_came : next.told ≡ with_entries (NoneCame ∷ []) now.told → next.counts.peers ≡ now.counts.peers
      → Stands plan start next relay (stood live (welcomed (facts_in live))) (NoneCame ∷ history)
  none_came told same = record {
    runs = runs_more s.runs (NoneCame ∷ []) (None, refl) told faults (stood live (welcomed (facts_in live)))
        (ap (after plan NoneCame history) s.runs.progress)
        (subst (λ (n : ℕ). AreInOrder (n + 1) history) (sym same) s.runs.ordered);
    knows = aside s.knows NoneCame tt;
  }

  pub came : (peer : ℕ) (k : Kind) → next.told ≡ with_entries (Accepted peer k ∷ []) now.told
      → now.counts.peers < peer → next.counts.peers ≡ peer → (kept : Bool) → kept ≡ is_kept k (length live.peers.items)
      → Stands plan start next relay (opened_if kept peer (facts_in live)) (Accepted peer k ∷ history)
  came peer k told lt is kept e = record {
    runs = runs_more s.runs (Accepted peer k ∷ []) (Some (peer, k), refl) told faults
        (opened_if kept peer (facts_in live))
        (ap (after plan (Accepted peer k) history) s.runs.progress
        ∙ ap (λ b. opened_if b peer (facts_in live)) (sym e)) (
          omega (arith, is),
          peers.in_order_later (now.counts.peers + 1) peer history s.runs.ordered (omega (arith, lt)),
        );
    knows = record {
      companion = knows_plain (Accepted peer k) s.knows.companion refl refl refl refl refl refl refl;
      wc_url = s.knows.wc_url;
      agrees = s.knows.agrees;
    };
  }

module _ {plan : Plan} {start now : Shown} {p : Progress} {history : History}
    (s : Runs plan start now p history) where
  -- the session that a place names first was not dialled
  pub its_none : {peer : ℕ} {left : List ℕ} → named p.place ≡ peer ∷ left → kind_of peer history ≡ None
  its_none e =
      peers.first_none plan (now.counts.peers + 1) history s.ordered _ _
      (ap (λ (x : Progress). named x.place) s.progress ∙ e)

  -- the television's was, as one of CSS-CII
  pub its_kind : {peer : ℕ} → p.facts.television ≡ Some peer → kind_of peer history ≡ Some kind.Cii
  its_kind e =
      let n = now.counts.peers + 1 in
      let P : Option ℕ → Type 0 = λ o. IfSome o (λ peer. (peer < n) × (kind_of peer history ≡ Some kind.Cii)) in
      (subst P (ap (λ (x : Progress). x.facts.television) s.progress ∙ e)
      (peers.television_dialled plan n history s.ordered)).1

module _ (live : Live) {plan : Plan} {start now : Shown} {history : History} {relay : Relay} where
  -- ---- publishing
  -- what is published is the state and the change that the variables have
  pub publishes : {state found : State} → Stands plan start now relay (published state (facts_in live)) history
      → found ≡ state → (change : Option (List ℕ)) → change ≡ difference_text live.state found
      → Stands plan start now relay (record {
        facts = record (facts_in live) { state = found };
        place = telling_if change (record (facts_in live) { state = found });
      }) history
  publishes s e change is = stands_as s _ (grind (arith, e, is))

  -- ---- the television's session, where it is open and where it isn't
  pub asked_next : Stands plan start now relay (stood live (welcomed (facts_in live))) history → (o : Option ℕ)
      → live.own.cii_open ≡ o → Stands plan start now relay (stood live (next_asked o live.peers.items)) history
  asked_next s o e =
      stands_as s (stood live (next_asked o live.peers.items)) (ap (λ x. stood live (next_asked x live.peers.items)) e)

-- ---- the television
-- an end by a text that is refused, or for want of memory
refusal_kind : (refusal : Option CompanionFault) (ended : Driven) → IsRefusal refusal ended → IsStop ended
refusal_kind refusal ended r = grind (arith, r)

refusal_facts : (refusal : Option CompanionFault) (state : State) (f : Facts) (ended : Driven)
    → IsRefusal refusal ended → IsFault ended ⊎ (f ≡ (television_told refusal state f).facts)
refusal_facts refusal state f ended r = grind (arith, r)

refusal_due : (refusal : Option CompanionFault) (state : State) (f : Facts) (ended : Driven) → IsRefusal refusal ended
    → (plan : Plan) (history : History) → MayEnd (due_for plan history (television_told refusal state f)) ended
refusal_due refusal state f ended r plan history = grind (arith, r)

module _ (live : Live) {plan : Plan} {start now next : Shown} {history : History} {relay : Relay} (peer : ℕ)
    (s : Stands plan start now relay (stood live (Welcomed peer)) history) where
  -- its text was heard, and is refused or not
  heard : (bytes : List ℕ) → Adds now next (Heard peer bytes ∷ [])
      → Runs plan start next (television_told (refusal_of (Some bytes) history)
      (relayed plan (Heard peer bytes ∷ history)) (facts_in live)) (Heard peer bytes ∷ history)
  heard bytes a = runs_on s.runs (Heard peer bytes) (session.Text bytes, refl) (λ o. o) a

  -- it ends the run
  pub refused : {later : Live} → facts_in later ≡ facts_in live → (bytes : List ℕ)
      → Adds now next (Heard peer bytes ∷ []) → (ended : Driven)
      → IsRefusal (refusal_of (Some bytes) history) ended → Stops plan start next later ended
  refused {later} same bytes a ended r =
      let refusal : Option CompanionFault = refusal_of (Some bytes) history in
      let state : State = relayed plan (Heard peer bytes ∷ history) in
      stops_here {live = later} (heard bytes a)
      (lawful_plain (Heard peer bytes) history (lawful s.knows) refl refl) ended
      (subst (λ (f : Facts). IsFault ended ⊎ (f ≡ (television_told refusal state (facts_in live)).facts)) (sym same)
      (refusal_facts refusal state (facts_in live) ended r)) (refusal_kind refusal ended r)
      (refusal_own refusal ended r)
      (refusal_due refusal state (facts_in live) ended r plan (Heard peer bytes ∷ history))

  -- or it is taken in, and the relay publishes
  pub taken_in : (bytes : List ℕ) → Adds now next (Heard peer bytes ∷ []) → refusal_of (Some bytes) history ≡ None
      → (later : Relay) → Knows plan later (Heard peer bytes ∷ history)
      → Stands plan start next later (published (relayed_state later.wc_url later.companion.state) (facts_in live))
      (Heard peer bytes ∷ history)
  taken_in bytes a accepts later k =
      let url = k.wc_url in
      let state = k.companion.stands.state in
      stands_as (record { runs = heard bytes a; knows = k }) _ (grind (arith, accepts, url, state))
