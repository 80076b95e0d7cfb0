-- How a television's run comes on by a call of the outside, by an event, by a line of the script, and from part to part
-- of its loop.
use Rattle.std.proofs.Common.{◌≡◌, ℕ, ◌+◌, ◌≤◌, ◌<◌, false, true, cond, List, [], ◌∷◌, ◌++◌, Option, Some, None, refl}
use Rattle.std.proofs.Common.{sym, ap, subst, ◌∙◌, arith, drop, Result, Ok, Err, length, get_or, inl, inr, ◌⊎◌, ◌-◌}
use Rattle.std.proofs.Common.{MatchResult}
use Rattle.std.specs.Prelude.{◌≢◌, ◌&&◌, ⊤, IfSome}
use Rattle.std.specs.Option.{option_map, option_to_list}
use Rattle.std.proofs.lemmas.Bool.Decides.{nat_tests}
use Rattle.std.proofs.lemmas.Grind.{common_steps}
use Rattle.css_model.specs.Wire.{encoded}
use Rattle.css_model.specs.declared.Kind.{Kind as PeerKind}
use Rattle.css_model.specs.declared.Why.{Why}
use Rattle.css_model.specs.declared.Why.TheVariants as why
use Rattle.css_model.specs.History.{History, Listening, Accepted, Clock}
use Rattle.css_num.specs.declared.protocol.Kind.{Kind}
use Rattle.css_outside.specs.declared.calls.Clocked.{Clocked}
use Rattle.css_outside.specs.Outsides.{Counts, CountsOpening, with_entries, clock_entries, CountsPlain}
use Rattle.css_server.specs.Tickets.{Ticket, response_to, follow_up_for}
use Rattle.css_sessions.specs.Kept.{Kept, talk_of, next_open}
use Rattle.css_sessions.specs.Told.{sessions_of, life_of, window_of}
use Rattle.css_sessions.specs.declared.session.Session.{Session}
use Rattle.css_sessions.proofs.InForce.{peers, peers_are}
use Rattle.css_sessions.proofs.Telling.{kept, is_kept}
use Rattle.css_player.specs.declared.command.PlayerFault.{PlayerFault}
use Rattle.css_tv.specs.Serving.{server_of}
use Rattle.css_tv.specs.Stages.{Stage, Television}
use Rattle.css_tv.specs.Outcomes.{Outcome, outcome_at, outs}
use Rattle.css_tv.specs.Standing.{StandsFor, IsFresh, IsAfterBy, calls_of}
use Rattle.css_tv.specs.declared.event.TvEvent.{TvEvent}
use Rattle.css_tv.specs.declared.event.TvEvent.TheVariants as event
use Rattle.css_tv.specs.declared.event.TvOut.{TvOut}
use Rattle.css_tv.specs.declared.fault.TvFault.{TvFault}
use Rattle.css_tv.specs.declared.state.Addresses.{Addresses}
use Rattle.css_tv.specs.declared.fault.TvFault.TheVariants as fault
use Rattle.css_schedule.specs.declared.line.ScriptLine.{ScriptLine}
use Rattle.css_schedule.specs.declared.fault.LineWhy.TheVariants as line_why
use Rattle.css_drive.specs.CompanionStanding.{Shown, IsFault, Calls}
use Rattle.css_drive.specs.CompanionStanding as shared
use Rattle.css_drive.specs.Proper.{Due, Now, TakeDatagram, MayAdd, Empty, More, Ends}
use Rattle.css_drive.specs.Ends.{MayEnd, CountsNetFault}
use Rattle.css_drive.specs.TvProgress.{Place, Listens, Turned, Received, Answers, Served, Asked, Progress, settled}
use Rattle.css_drive.specs.TvProgress.{settled_at, carry, with_line, is_free, is_due, addresses_in, progress_of, after}
use Rattle.css_drive.specs.TvProgress.{beginning, happened, outcome_after, outs_in, played, played_if, event_of, since}
use Rattle.css_drive.specs.TvProgress.{begun, goes_on, is_over, no_turns, asked}
use Rattle.css_drive.specs.TvDue.{TvRun, due, due_for, from_hang_ups, above}
use Rattle.css_drive.specs.TvRan.{AreBelow, AreNumbered, MadeTurns}
use Rattle.css_drive.specs.TvStanding.{From, Told, Stops, Adds, IsRead, Airs, IsAt, Settles, Happens, Comes, IsTurned}
use Rattle.css_drive.specs.TvStanding.{IsUnused, started, progress_at, live_after, at_end, with_tv, Carries, hanging_up}
use Rattle.css_drive.specs.TvStanding.{past_line, still}
use Rattle.css_drive.specs.declared.driven.Driven.{Driven}
use Rattle.css_drive.specs.declared.driven.Driven.TheVariants as driven
use Rattle.css_drive.specs.declared.turns.OnAir.{OnAir}
use Rattle.css_drive.specs.declared.turns.Turns.{Turns}
use Rattle.css_drive.proofs.CompanionSteps as companion
use Rattle.css_drive.proofs.CompanionEnds.{no_entries}
use Rattle.css_drive.proofs.TvTold.{IsNoOpening, is_fresh, opens_none, followed, all_good}

-- ---- lines that wait
pub carry_stops : (a : Addresses) (s r : ℕ) (lines : List ScriptLine) (p : Progress) → is_free p ≡ false
    → carry a s r lines p ≡ p
carry_stops a s r [] p e = refl
carry_stops a s r (line ∷ left) p e =
    ap (λ b. cond (b && is_due s r line) (carry a s r left (with_line a r line left p)) p) e

settled_stops : (a : Addresses) (p : Progress) → is_free p ≡ false → settled a p ≡ p
settled_stops a p e = go p.place where
  go : (place : Place) → settled_at a place p ≡ p
  go (Turned r) = carry_stops a (since p.turns) r p.lines p e
  go _ = refl

-- ---- the history
below_later : (a b : ℕ) (h : History) → a ≤ b → AreBelow a h → AreBelow b h
below_later a b [] le h = tt
below_later a b (Accepted peer kind ∷ older) le h = (omega (arith, le, h.0), below_later a b older le h.1)
below_later a b (_ ∷ older) le h = below_later a b older le h

-- calls by which no session comes
abbrev pub AcceptsNone : History → Type 0
AcceptsNone [] = ⊤
AcceptsNone (Accepted peer kind ∷ older) = ⊥
AcceptsNone (_ ∷ older) = AcceptsNone older

numbered_on : (n : ℕ) (call h : History) → AcceptsNone call → AreNumbered h × AreBelow n h
    → AreNumbered (call ++ h) × AreBelow n (call ++ h)
numbered_on n [] h none known = known
numbered_on n (Accepted peer kind ∷ call) h none known = absurd none
numbered_on n (_ ∷ call) h none known = numbered_on n call h none known

-- how far entries bring a run
abbrev pub after_all : Addresses → History → Progress → Progress
after_all a [] p = p
after_all a (entry ∷ older) p = after a entry (after_all a older p)

progress_more : (run : TvRun) (call h : History)
    → progress_of run (call ++ h) ≡ after_all (addresses_in run.config) call (progress_of run h)
progress_more run [] h = refl
progress_more run (entry ∷ call) h = ap (after (addresses_in run.config) entry) (progress_more run call h)

pub told_as : {from : From} {now : Shown} {p : Progress} {h : History} (q : Progress) → Told from now p h → p ≡ q
    → Told from now q h
told_as {from} {now} {h = h} q t e = subst (λ (x : Progress). Told from now x h) e t

module _ {from : From} {now next : Shown} {p : Progress} {h : History} (t : Told from now p h) where
  -- the entries of a call that is due are added
  told_more : (call : History) → MayAdd (due_for from.run p) call → next.told ≡ with_entries call now.told
      → next.counts.dial_faults ≡ now.counts.dial_faults → next.counts.faults ≡ now.counts.faults
      → AreNumbered (call ++ h) → AreBelow (next.counts.peers + 1) (call ++ h)
      → Told from next (after_all (addresses_in from.run.config) call p) (call ++ h)
  told_more call may told dials faults numbered below = record {
    grew = companion.told_more from.start.told now.told next.told call h t.grew told;
    dials = dials ∙ t.dials;
    faults = faults ∙ t.faults;
    proper = More call (subst (λ x. MayAdd (due_for from.run x) call) (sym t.progress) may) t.proper;
    numbered = numbered;
    below = below;
    progress = progress_more from.run call h ∙ ap (after_all (addresses_in from.run.config) call) t.progress;
  }

  -- the run ends, with nothing more told
  pub stops : next.told ≡ now.told → next.counts.dial_faults ≡ now.counts.dial_faults → (ended : Driven)
      → MayEnd (due from.run h) ended → MadeTurns from.run h ended
      → CountsNetFault now.counts.faults next.counts.faults ended → ended ≢ driven.WriteFault → Stops from next ended
  stops told dials ended ends whole counted no_writes = record {
    ran = record {
      h = h;
      grew = told ∙ t.grew;
      proper = t.proper;
      numbered = t.numbered;
      ends = ends;
      whole = whole;
    };
    counted = record {
      dials = dials ∙ t.dials;
      faults = subst (λ n. CountsNetFault n next.counts.faults ended) t.faults counted;
      no_writes = no_writes;
    };
  }

-- a call fails, by which no session comes
faulty : (run : TvRun) (h : History) (ended : Driven) → IsFault ended
    → MayEnd (due run h) ended × MadeTurns run h ended × (ended ≢ driven.WriteFault)
faulty run h ended is = grind (arith, is)

pub failed : {from : From} {now next : Shown} {p : Progress} {h : History} {ended : Driven} → Told from now p h
    → shared.Fails now next None ended → Stops from next ended
failed {from} {h = h} {ended = ended} t f =
    let k = faulty from.run h ended f.end in stops t f.told f.dials ended k.0 k.1 f.counted k.2

-- ---- the loop
pub added : {old new : Shown} {entries : History} → shared.Adds old new entries → Adds old new entries
added a = record {
  told = a.told;
  dials = ap (λ x. x.dial_faults) a.same;
  faults = ap (λ x. x.faults) a.same;
  peers = ap (λ x. x.peers) a.same;
}

-- the first of the peers, if there is one
abbrev pub IsFirst : Option ℕ → List ℕ → Type 0
IsFirst None xs = xs ≡ []
IsFirst (Some peer) xs = (rest : List ℕ) × (xs ≡ peer ∷ rest)

first_above : (last : Option ℕ) (ss : List Session) → IsFirst (next_open last ss) (above last (peers ss))
first_above None [] = refl
first_above None (s ∷ ss) = (peers ss, refl)
first_above (Some last) [] = refl
first_above (Some last) (s ∷ ss) = let ih = first_above (Some last) ss in grind (arith, ih)

-- how many peers may come after the last one
abbrev pub room_after : Option ℕ → ℕ
room_after None = 4294967296
room_after (Some last) = 4294967295 - last

pub later : (last : Option ℕ) (ss : List Session) (peer : ℕ) → Some peer ≡ next_open last ss → peer < 4294967296
    → room_after (Some peer) < room_after last
later None ss peer e lt = omega arith
later (Some last) [] peer e lt = absurd (cc)
later (Some last) (s ∷ ss) peer e lt =
    let ih = λ (e : Some peer ≡ next_open (Some last) ss). later (Some last) ss peer e lt in
    grind (arith, nat_tests, ih, e, lt)

module _ {from : From} {now : Shown} {air : OnAir} {to : List TvEvent → Progress} (x : Airs from now air to) where
  -- with other values of the loop, and where more is told
  abbrev airs_by : {next : Shown} {air' : OnAir} {to' : List TvEvent → Progress} {h : History}
      → air'.tv.stage ≡ air.tv.stage → Told from next (to' x.events) h → Airs from next air' to'
  airs_by {h = h} stage t = record {
    events = x.events;
    h = h;
    history = t;
    addresses = ap (λ s. s.addresses) stage ∙ x.addresses;
    stage = subst (λ s. StandsFor s x.events) (sym stage) x.stage;
  }

  pub airs_as : {air' : OnAir} {to' : List TvEvent → Progress} → air'.tv.stage ≡ air.tv.stage
      → to x.events ≡ to' x.events → Airs from now air' to'
  airs_as stage e = airs_by stage (told_as _ x.history e)

  -- A call that is due brings it on, by which no session comes.
  pub moved : {next : Shown} {d : Due} → due_for from.run (to x.events) ≡ d → (call : History) → AcceptsNone call
      → MayAdd d call → Adds now next call
      → Airs from next air (λ events. after_all (addresses_in from.run.config) call (to events))
  moved {next} is call none may added =
      let known = numbered_on (now.counts.peers + 1) call x.h none (x.history.numbered, x.history.below) in
      airs_by refl (told_more x.history call (subst (λ d. MayAdd d call) (sym is) may) added.told added.dials
      added.faults known.0 (subst (λ n. AreBelow (n + 1) (call ++ x.h)) (sym added.peers) known.1))

  -- a call that all runs share is made where it is due, or it fails
  pub called : {d : Due} → due_for from.run (to x.events) ≡ d → (call : History) → AcceptsNone call → MayAdd d call
      → {T : Type 0} (next : Shown) (result : Result T Driven)
      → Calls now next None (λ old new _. shared.Adds old new call) result
      → MatchResult result
      (λ _. Airs from next air (λ events. after_all (addresses_in from.run.config) call (to events))) (Stops from next)
  called is call none may next (Ok value) went = moved is call none may (added went)
  called is call none may next (Err ended) went = failed x.history went

  sessions_same : air.tv.stage.sessions ≡ sessions_of (calls_of (addresses_in from.run.config) x.events).sessions
  sessions_same = cc

  -- the first open session after the last one
  first_open : (last : Option ℕ) {first : Option ℕ} → first ≡ next_open last air.tv.stage.sessions.list
      → IsFirst first (above last (live_after from x.events))
  first_open last is =
      rw is
      (subst (λ xs. IsFirst (next_open last air.tv.stage.sessions.list) (above last xs))
      (ap (λ k. peers k.list) sessions_same ∙ peers_are (calls_of (addresses_in from.run.config) x.events).sessions)
      (first_above last air.tv.stage.sessions.list))

  -- what an event does by the events before it is what it does at the television
  pub outcome_same : (e : TvEvent) → outcome_at e air.tv.stage ≡ outcome_after (addresses_in from.run.config) x.events e
  outcome_same e = cc

-- The clock is read.
pub read_on : {from : From} {now next : Shown} {air : OnAir} {to : List TvEvent → Progress}
    → (x : Airs from now air to) → (w : Why) → due_for from.run (to x.events) ≡ Now w → (reading : ℕ)
    → IsRead w now next reading
    → Airs from next air (λ events. after (addresses_in from.run.config) (Clock w reading) (to events))
read_on x w d reading (true, added) =
    let clocked : Clocked = record { reading = reading; slept = true } in
    moved x d (clock_entries w clocked) tt (clocked, refl) added
read_on x w d reading (false, added) =
    let clocked : Clocked = record { reading = reading; slept = false } in
    moved x d (clock_entries w clocked) tt (clocked, refl) added

-- ---- an event
-- one that opens no session is told
pub happens : {from : From} {now : Shown} {air : OnAir} {place : Place} {owed : List TvOut} (e : TvEvent)
    → IsNoOpening e → Airs from now air (λ events. let a = addresses_in from.run.config in
    settled a (happened a e (progress_at from.run air place owed events)))
    → Happens place owed e from now air
happens {from} e n x = let a = addresses_in from.run.config in record {
  airs = x;
  fresh = is_fresh e n (calls_of a x.events).sessions;
}

outs_by : (k : Kept) (old new : Stage) (after : List TvOut) (r x : Result Outcome TvFault) → old.sessions ≡ k → r ≡ x
    → IsAfterBy old new [] after r → (outs_in k x ≡ after) × (new.addresses ≡ old.addresses)
outs_by k old new after (Err f) x same e done = absurd done
outs_by k old new after (Ok o) x same e done =
    (sym (done.out ∙ ap (λ y. outs o y) same ∙ ap (outs_in k) e), ap (λ x. x.addresses) done.stage)

-- The television hears of it, and what it has to do is owed.
pub heard_of : {from : From} {now : Shown} {air : OnAir} {place : Place} {e : TvEvent} {owed : List TvOut}
    → Happens place owed e from now air → (tv : Television) (after : List TvOut)
    → IsAfterBy air.tv.stage tv.stage [] after (outcome_at e air.tv.stage)
    → ((h : List TvEvent) → StandsFor air.tv.stage h → IsFresh e (calls_of air.tv.stage.addresses h).sessions
    → StandsFor tv.stage (e ∷ h))
    → tv.server ≡ air.tv.server → Settles place (owed ++ after) from now (with_tv air tv)
heard_of {from} {air = air} {place} {e} {owed} happens tv after done stands server =
    let a = addresses_in from.run.config in
    let x = happens.airs in
    let by = outs_by _ air.tv.stage tv.stage after (outcome_at e air.tv.stage) _ (sessions_same x) (outcome_same x e)
    done in
    record {
      events = e ∷ x.events;
      h = x.h;
      history = told_as _ x.history (cc by.0);
      addresses = by.1 ∙ x.addresses;
      stage = stands x.events x.stage
          (subst (λ (y : Addresses). IsFresh e (calls_of y x.events).sessions) (sym x.addresses) happens.fresh);
    }

-- ---- sessions
module _ {from : From} {now : Shown} {air : OnAir} where
  -- a peer above the greatest never had a session
  no_life : {place : Place} (x : IsAt place from now air) (peer : ℕ) → now.counts.peers < peer
      → life_of peer (calls_of (addresses_in from.run.config) x.events).sessions ≡ None
  no_life x peer lt =
      ap (λ (p : Progress). life_of peer (calls_of (addresses_in from.run.config) p.events).sessions)
      (sym x.history.progress)
      ∙ (all_good from.run x.h (followed from.run x.h x.history.proper) x.history.numbered peer).unused
      (below_later _ _ x.h (omega (arith, lt)) x.history.below)

  pub unused_of : {place : Place} → IsAt place from now air → IsUnused now air.tv
  unused_of x = λ peer lt.
      let stands = x.stage.sessions in
      let h = (calls_of air.tv.stage.addresses x.events).sessions in
      ap (λ k. talk_of peer k.list) stands.same ∙ (is_kept h stands.lawful).talks peer
      ∙ ap (kept (window_of peer h))
      (ap (λ a. life_of peer (calls_of a x.events).sessions) x.addresses ∙ no_life x peer lt)

  -- a session comes
  pub welcomes : {next : Shown} → IsAt Served from now air → (peer : ℕ) (kind : PeerKind) (k : Kind)
      → (let a = addresses_in from.run.config in
      (p : Progress) → after a (Accepted peer kind) p ≡ happened a (event.Opened peer k) (asked None p))
      → next.told ≡ with_entries (Accepted peer kind ∷ []) now.told
      → CountsOpening now.counts next.counts (Ok (Some (peer, kind)))
      → Happens (Asked None) [] (event.Opened peer k) from next air
  welcomes x peer kind k so told counted =
      let lt : now.counts.peers < peer = counted.peer.0 in
      let below : AreBelow peer x.h = below_later _ _ x.h (omega (arith, lt)) x.history.below in
      record {
        airs = airs_by x refl (told_as _ (told_more x.history (Accepted peer kind ∷ []) (Some (peer, kind), refl) told
            (ap (λ (y : Counts). y.dial_faults) counted.same) counted.faults (below, x.history.numbered) (
              let is = counted.peer.1 in omega (arith, is),
              below_later _ _ x.h (let is = counted.peer.1 in omega (arith, lt, is)) x.history.below,
            ))
            (so (progress_at from.run air Served [] x.events)));
        fresh = no_life x peer lt;
      }

  -- ---- what is owed
  -- it is done before any line
  pub waiting : {place : Place} {o : TvOut} {rest : List TvOut} → Settles place (o ∷ rest) from now air
      → (o' : TvOut) → o ≡ o' → Airs from now air (λ events. progress_at from.run air place (o' ∷ rest) events)
  waiting {place} {o} {rest} x o' e =
      airs_as x refl
      (settled_stops (addresses_in from.run.config) (progress_at from.run air place (o ∷ rest) x.events) refl
      ∙ ap (λ y. progress_at from.run air place (y ∷ rest) x.events) e)

  pub owing : (place : Place) {owed owed' : List TvOut} → owed ≡ owed' → Settles place owed from now air
      → Settles place owed' from now air
  owing place e x = subst (λ os. Settles place os from now air) e x

  -- ---- datagrams
  -- the answer of a request is to be sent
  pub answer_read : {next : Shown} {peer : ℕ} {ticket : Ticket} → IsAt (Received peer ticket) from now air
      → (reading : ℕ) → IsRead why.Give now next reading → (response : List ℕ)
      → response ≡ encoded (response_to air.tv.server ticket reading)
      → (later : Option (List ℕ)) → later ≡ option_map encoded (follow_up_for air.tv.server ticket reading)
      → IsAt (Answers peer (response ∷ option_to_list later)) from next air
  answer_read {peer = peer} x reading read response e later f =
      let y = read_on x why.Give refl reading read in
      airs_as y refl (cc)

  -- ---- turns
  -- one begins
  pub turn_begins : {next : Shown} → Comes at_end from now air → goes_on air.turns ≡ true → (reading : ℕ)
      → IsRead why.Turn now next reading → (turns : Turns) → turns ≡ begun reading air.turns
      → Settles (Turned reading) [] from next (record air { turns = turns })
  turn_begins x goes reading read turns is =
      let live = live_after from x.is_at.events in
      let y = read_on x.is_at why.Turn (x.next ∙ ap (λ b. cond b (Now why.Turn) (from_hang_ups live)) goes) reading
      read in
      airs_as y refl (cc)

  -- a datagram is taken, unless the turn is the last by its time
  pub may_take : IsTurned from now air → is_over air.turns ≡ false → Comes (λ _ live. TakeDatagram) from now air
  may_take x on = record {
    place = Turned x.0;
    is_at = x.1;
    next = ap (λ b. cond b (from_hang_ups (live_after from x.1.events)) TakeDatagram) on;
  }

-- ---- the beginning
pub at_first : (run : TvRun) (start : Shown) → Told (started run start) start (beginning run) []
at_first run start = record {
  grew = no_entries start.told;
  dials = refl;
  faults = refl;
  proper = Empty;
  numbered = tt;
  below = tt;
  progress = refl;
}

module _ (run : TvRun) {start now : Shown} {T : Type 0} {value : T}
    (told : now.told ≡ with_entries (Listening run.config.host run.config.port ∷ []) start.told)
    (counted : CountsPlain start.counts now.counts (Ok value)) where
  pub listens : Told (started run start) now (record (beginning run) { place = Listens })
      (Listening run.config.host run.config.port ∷ [])
  listens = told_more (at_first run start) (Listening run.config.host run.config.port ∷ []) refl told
      (ap (λ (x : Counts). x.dial_faults) counted.same) counted.faults tt tt

  pub begins : (air : OnAir) → air.tv.stage.addresses ≡ addresses_in run.config → StandsFor air.tv.stage []
      → air.tv.server ≡ server_of run.config → air.turns ≡ no_turns run.limit run.relative → air.lines ≡ 0
      → Comes at_end (started run start) now air
  begins air addresses stands server turns zero = record {
    place = Listens;
    is_at = record {
      events = [];
      h = Listening run.config.host run.config.port ∷ [];
      history = told_as _ listens
          (let left : drop air.lines run.script ≡ run.script = ap (λ n. drop n run.script) zero in cc);
      addresses = addresses;
      stage = stands;
    };
    next = refl;
  }

-- ---- places in lists
pub left_at : {X : Type 0} (xs : List X) (i : ℕ) (x : X) → i < length xs → x ≡ get_or xs i x
    → drop i xs ≡ x ∷ drop (i + 1) xs
left_at xs i x lt is = grind (arith, common_steps)

pub peers_all : {X : Type 0} (xs : List X) (i : ℕ) → length xs ≤ i → drop i xs ≡ []
peers_all xs i le = grind (arith, common_steps)

-- ---- a line that is due
module _ {from : From} {now : Shown} {air : OnAir} {r : ℕ} {line : ScriptLine} (x : Carries r line from now air) where
  -- how far the run has come before it, and after it where it is this event
  abbrev before : Progress
  before = progress_at from.run air (Turned r) [] x.settles.events

  abbrev going : Progress → Progress
  going p = carry (addresses_in from.run.config) (since air.turns) r (drop (air.lines + 1) from.run.script) p

  abbrev by_event : Option TvEvent → Progress
  by_event o = going (played_if (addresses_in from.run.config) (drop (air.lines + 1) from.run.script) before o)

  abbrev by_outcome : TvEvent → Result Outcome TvFault → Progress
  by_outcome e o = going (played (addresses_in from.run.config) e (drop (air.lines + 1) from.run.script) before o)

  carried : (o : Option TvEvent) → o ≡ event_of r line.verb → Told from now (by_event o) x.settles.h
  carried o is =
      let a = addresses_in from.run.config in
      let left = drop (air.lines + 1) from.run.script in
      told_as _ x.settles.history
      (ap (λ ls. carry a (since air.turns) r ls before) x.next
      ∙ ap (λ b. cond b (going (with_line a r line left before)) before) x.is_due ∙ ap by_event (sym is))

  -- it is no event
  pub passed_over : None ≡ event_of r line.verb → Settles (Turned r) [] from now (past_line air)
  passed_over e = airs_by x.settles refl (carried None e)

  -- it is one, and the player accepts it
  pub line_happens : (e : TvEvent) → Some e ≡ event_of r line.verb → (new : Stage) (after : List TvOut)
      → IsAfterBy air.tv.stage new [] after (outcome_at e air.tv.stage)
      → Happens (Turned r) [] e from now (past_line air)
  line_happens e is new after done =
      happens e (subst (λ o. IfSome o IsNoOpening) (sym is) (opens_none r line.verb))
      (airs_by x.settles refl (told_as _ (carried (Some e) is)
      (ap (by_outcome e) (sym (outcome_same x.settles e)) ∙ by (outcome_at e air.tv.stage) done)))
    where
      by : (o : Result Outcome TvFault) → IsAfterBy air.tv.stage new [] after o
          → by_outcome e o
          ≡ (let a = addresses_in from.run.config in
          settled a (happened a e (progress_at from.run (past_line air) (Turned r) [] x.settles.events)))
      by (Err f) done = absurd done
      by (Ok o) done = refl

  -- the player refuses it
  pub line_refused : (e : TvEvent) → Some e ≡ event_of r line.verb → (f : PlayerFault)
      → (outcome_at e air.tv.stage ≡ Err (fault.Player f)) ⊎ (fault.Player f ≡ fault.Memory)
      → Stops from now (driven.BadLine (air.lines + 1) (line_why.Player f))
  line_refused e is f (inr same) = absurd (cc)
  line_refused e is f (inl refused) =
      let q : Progress = record before { refused = Some (fault.Player f) } in
      let t : Told from now q x.settles.h = told_as q (carried (Some e) is)
      (ap (by_outcome e) (sym (outcome_same x.settles e) ∙ refused)
      ∙ carry_stops (addresses_in from.run.config) (since air.turns) r _ q refl) in
      stops t refl refl _ (ap (due_for from.run) t.progress) tt refl (λ same. cc)

-- ---- which line is next
-- where the run's script is this one
module _ {from : From} {now : Shown} {air : OnAir} (r : ℕ) (x : Settles (Turned r) [] from now air)
    (script : List ScriptLine) (e : from.run.script ≡ script) where
  abbrev going_on : List ScriptLine → Progress
  going_on lines = carry (addresses_in from.run.config) (since air.turns) r lines
      (progress_at from.run air (Turned r) [] x.events)

  pub no_line : length script ≤ air.lines → IsTurned from now air
  no_line over = (r, airs_as x refl (ap going_on (ap (drop air.lines) e ∙ peers_all script air.lines over)))

  -- this is the next one, and its time counts from this reading
  module _ (line : ScriptLine) (lt : air.lines < length script) (is : line ≡ get_or script air.lines line)
      (begun : ℕ) (since_is : since air.turns ≡ begun) where
    next : drop air.lines from.run.script ≡ line ∷ drop (air.lines + 1) from.run.script
    next = ap (drop air.lines) e ∙ left_at script air.lines line lt is
        ∙ ap (λ ls. line ∷ drop (air.lines + 1) ls) (sym e)

    -- it is due
    pub carries : begun + line.due ≤ r → Carries r line from now air
    carries le = record {
      settles = x;
      next = next;
      is_due = ap (λ m. is_due m r line) since_is ∙ grind (arith, nat_tests);
    }

    -- it isn't, and so it waits, and those after it
    pub line_waits : r < begun + line.due → IsTurned from now air
    line_waits later =
        let a = addresses_in from.run.config in
        let left = drop (air.lines + 1) from.run.script in
        let p = progress_at from.run air (Turned r) [] x.events in
        let waits : is_due begun r line ≡ false = grind (arith, nat_tests) in (
          r,
          airs_as x refl (ap going_on next
              ∙ ap (λ b. cond b (carry a (since air.turns) r left (with_line a r line left p)) p)
              (ap (λ m. is_due m r line) since_is ∙ waits)),
        )

-- ---- the peers of sessions
pub comes_as : {from : From} {now : Shown} {air : OnAir} {to to' : OnAir → List ℕ → Due} → (x : Comes to from now air)
    → (let live = live_after from x.is_at.events in to air live ≡ to' air live) → Comes to' from now air
comes_as x e = record { place = x.place; is_at = x.is_at; next = x.next ∙ e }

-- what is due where a session is the first open one after the last, and where none is
module _ (f : Turns → List ℕ → List ℕ → Due) {from : From} {now : Shown} {air : OnAir} (last : Option ℕ)
    (x : Comes (still f last) from now air) where
  pub first_due : (peer : ℕ) → Some peer ≡ next_open last air.tv.stage.sessions.list → (d : Due)
      → ((live rest : List ℕ) → f air.turns live (peer ∷ rest) ≡ d) → Comes (λ _ live. d) from now air
  first_due peer is d so =
      let live = live_after from x.is_at.events in
      let e = first_open x.is_at last is in
      comes_as x (ap (f air.turns live) e.1 ∙ so live e.0)

  pub none_due : None ≡ next_open last air.tv.stage.sessions.list → Comes (λ air live. f air.turns live []) from now air
  none_due is = comes_as x (ap (f air.turns (live_after from x.is_at.events)) (first_open x.is_at last is))

-- the turns are over
pub turns_over : {from : From} {now : Shown} {air : OnAir} → Comes at_end from now air → goes_on air.turns ≡ false
    → Comes (still hanging_up None) from now air
turns_over {from} x over =
    comes_as x (ap (λ b. cond b (Now why.Turn) (from_hang_ups (live_after from x.is_at.events))) over)

-- the run is done, once all sessions are hung up
pub all_hung : {from : From} {now : Shown} {air : OnAir} → Comes (λ _ live. Ends driven.Done) from now air
    → goes_on air.turns ≡ false → Stops from now driven.Done
all_hung {from} x over =
    let e = x.is_at.history.progress in
    stops x.is_at.history refl refl driven.Done (ap (due_for from.run) e ∙ x.next) (ap (λ y. goes_on y.turns) e ∙ over)
    refl (λ same. cc)

pub peer_from : (xs : List ℕ) (i : ℕ) → i < length xs → drop i xs ≡ get_or xs i 0 ∷ drop (i + 1) xs
peer_from xs i lt = grind (arith, common_steps)
