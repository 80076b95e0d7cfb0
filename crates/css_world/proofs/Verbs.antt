-- Whether what a line says can be carried out, and what a session then stands for.
use Rattle.std.proofs.Common.{◌≡◌, ◌≤◌, ℕ, Bool, true, false, cond, not, List, ◌∷◌, arith, refl, ap, sym, subst, ◌∙◌}
use Rattle.std.proofs.Common.{◌⊎◌, inl, inr, option_map, ◌&&◌, rules, Option, Some, None, is_some, Result, Ok, Err}
use Rattle.css_model.specs.declared.Why.TheVariants as why
use Rattle.css_server.specs.Exchanges as servers
use Rattle.css_tv.specs.Stages.{Television as Tv}
use Rattle.css_tv.specs.Standing as tvs
use Rattle.css_tv.specs.declared.event.TvEvent.TheVariants as event
use Rattle.css_companion.specs.Aside.{IsAside}
use Rattle.css_companion.specs.Standing as companions
use Rattle.css_companion.specs.declared.event.CompanionEvent.{CompanionEvent}
use Rattle.css_companion.proofs.Telling.{stands_aside}
use Rattle.css_meaning.proofs.Dialled.{open_was, unwritten, untold}
use Rattle.css_world.specs.declared.lane.Lane.{Lane}
use Rattle.css_world.specs.declared.session.Phase.TheVariants as phases
use Rattle.css_model.specs.declared.Kind.TheVariants as session
use Rattle.css_world.specs.Flights.{Session, phase_of, opened, closed, first_in, SessionCarries, SessionStands, HasNews}
use Rattle.css_world.specs.Lanes.{LanesStand, AllArePlayed, IsDialled}
use Rattle.css_world.specs.Standing.{Kept, EndsStand, IsAtTv, carried, Carries}
use Rattle.css_world.proofs.Names.{IsErrAnd, err_from_is_err_and, Entry, History, Clock, Dialled, Wrote, Server, Kind}
use Rattle.css_world.proofs.Names.{Bound, calls_of, TvEvent, Companion, IsEntryOf, Header, Verb, Ask, Take, Give}
use Rattle.css_world.proofs.Names.{Programme, Timeline, Viewer, Opening, Bring, Up, Present, Close, WorldFault, Absent}
use Rattle.css_world.proofs.Names.{Memory, addresses, peer_of, is_open, was_opened, heard_from, written_to}
use Rattle.css_world.proofs.Names.{received_from, told_to, next_down, next_up, Numbered, tickets, events_of, history_of}
use Rattle.css_world.proofs.Names.{can_happen, event_at, played, AreAccepted, ts_of}
use Rattle.css_world.proofs.Carrying.{own_line, histories}
use Rattle.css_world.proofs.Flights.{opened-ok, opened-err, closed-ok, closed-err, is-live, first-down, first-up}
use Rattle.css_world.proofs.Flights.{told-more, opened-now, closed-now}

-- ---- whether it can be carried out
-- what can happen is carried out as the television takes it
pub carried-when : (header : Header) (lines : List Numbered) (who : ℕ) (verb : Verb)
    → can_happen header lines who verb ≡ true
    → carried header lines who verb ≡ played (events_of header lines) (event_at header lines who verb)
carried-when header lines who verb can =
    ap (λ b. cond b (played (events_of header lines) (event_at header lines who verb)) (Err Absent)) can

-- and what can't isn't
pub carried-not : (header : Header) (lines : List Numbered) (who : ℕ) (verb : Verb)
    → can_happen header lines who verb ≡ false → carried header lines who verb ≡ Err Absent
carried-not header lines who verb cannot =
    ap (λ b. cond b (played (events_of header lines) (event_at header lines who verb)) (Err Absent)) cannot

-- a call that tells why a line isn't carried out
pub refuses : (old new : Kept) (result : Result (Unit {0}) WorldFault) (lines : List Numbered) (now : Numbered)
    (who : ℕ) (verb : Verb) (fault : WorldFault) → result ≡ Err fault → (carried old.header lines who verb ≡ Err fault)
    ⊎ (fault ≡ Memory) → Carries old new result lines now who verb
refuses old new result lines now who verb fault is why = rw is (record { answer = why; are = tt; ends = tt })

-- so does one that tells that it can't happen
pub refuses-absent : (old new : Kept) (lines : List Numbered) (now : Numbered) (who : ℕ) (verb : Verb)
    → can_happen old.header lines who verb ≡ false → Carries old new (Err Absent) lines now who verb
refuses-absent old new lines now who verb cannot =
    refuses old new (Err Absent) lines now who verb Absent refl (inl (carried-not old.header lines who verb cannot))

-- or that passes on why
pub refuses-as : (old new : Kept) (result : Result (Unit {0}) WorldFault) (lines : List Numbered) (now : Numbered)
    (who : ℕ) (verb : Verb) (fault : WorldFault) → IsErrAnd result (λ f. f ≡ fault)
    → (can_happen old.header lines who verb ≡ false) × (fault ≡ Absent) → Carries old new result lines now who verb
refuses-as old new result lines now who verb fault is why =
    let exit = err_from_is_err_and result is in
    rw (exit.1 ∙ ap Err (exit.2 ∙ why.1)) (refuses-absent old new lines now who verb why.0)

-- or that passes on why the television refuses what happens there
pub refuses-played : (old new : Kept) (result : Result (Unit {0}) WorldFault) (lines : List Numbered)
    (now : Numbered) (who : ℕ) (verb : Verb) (e : TvEvent) (fault : WorldFault) → IsErrAnd result (λ f. f ≡ fault)
    → can_happen old.header lines who verb ≡ true → event_at old.header lines who verb ≡ Some e
    → (played (events_of old.header lines) (Some e) ≡ Err fault) ⊎ (fault ≡ Memory)
    → Carries old new result lines now who verb
refuses-played old new result lines now who verb e fault is can at why =
    let exit = err_from_is_err_and result is in
    refuses old new result lines now who verb fault (exit.1 ∙ ap Err exit.2) (by why)
  where
    by : (played (events_of old.header lines) (Some e) ≡ Err fault) ⊎ (fault ≡ Memory)
        → (carried old.header lines who verb ≡ Err fault) ⊎ (fault ≡ Memory)
    by (inl refused) =
        inl (carried-when old.header lines who verb can ∙ ap (played (events_of old.header lines)) at ∙ refused)
    by (inr memory) = inr memory

-- so may any call that tells of want of memory
pub wants : (old new : Kept) (result : Result (Unit {0}) WorldFault) (lines : List Numbered) (now : Numbered)
    (who : ℕ) (verb : Verb) → IsErrAnd result (λ fault. fault ≡ Memory) → Carries old new result lines now who verb
wants old new (Ok done) lines now who verb none = absurd none
wants old new (Err fault) lines now who verb memory = record { answer = inr memory; are = tt; ends = tt }

-- ---- both ends
-- a verb by which no request and no datagram is made, and no request is taken
abbrev pub IsQuiet : Verb → Type 0
IsQuiet (Ask reading) = ⊥
IsQuiet (Take request reading) = ⊥
IsQuiet (Give take reading) = ⊥
IsQuiet _ = Unit {0}

-- After such a verb the world stands for the line too, where the companions and the stage do: what is stored stays.
pub quiet : (old : Kept) (lines : List Numbered) (number t w who l : ℕ) (verb : Verb) (tv : Tv) (lanes : List Lane)
    → IsQuiet verb → EndsStand old lines → tv.server ≡ old.tv.tv.server
    → tvs.StandsFor tv.stage (events_of old.header (own_line number t w who l verb ∷ lines))
    → LanesStand (events_of old.header (own_line number t w who l verb ∷ lines))
    (histories old.header (own_line number t w who l verb ∷ lines)) lanes
    → EndsStand (record old { tv = record old.tv { tv = tv }; lanes = lanes }) (own_line number t w who l verb ∷ lines)
quiet old lines number t w who l (Ask reading) tv lanes is ends same stage stands = absurd is
quiet old lines number t w who l (Take request reading) tv lanes is ends same stage stands = absurd is
quiet old lines number t w who l (Give take reading) tv lanes is ends same stage stands = absurd is
quiet old lines number t w who l _ tv lanes is ends same stage stands = record {
  lanes = stands;
  stage = stage;
  server = subst (λ (s : Server). servers.StandsFor s (tickets old.header lines)) (sym same) ends.server;
  in_range = ends.in_range;
  none_ahead = ends.none_ahead;
  requests = ends.requests;
  askers = ends.askers;
  takes = ends.takes;
  taken_for = ends.taken_for;
  datagrams = ends.datagrams;
  made_for = ends.made_for;
}

-- ---- sessions
-- what the television told a session is in flight on it
pub session-played : {peer : ℕ} {events : List TvEvent} {e : TvEvent} {old new : Session} {live opened :
    Bool} {heard written received : List (List ℕ)}
    → HasNews peer events e old new → SessionCarries old live opened (told_to peer events) heard written received
    → SessionCarries new live opened (told_to peer (e ∷ events)) heard written received
session-played {peer} {events} {e} {old} {new} {live} {opened} {heard} {written} {received} news carries =
    rw news.carried (told-more news.news (told_to peer (e ∷ events)) carries news.told)

-- a companion that stands for a history stands for it with such an entry too
pub aside : (companion : Companion) (entry : Entry) (own : History) → IsAside entry own
    → companions.StandsFor companion own → companions.StandsFor companion (entry ∷ own)
aside companion entry own is stands = stands_aside companion own entry stands is

-- a session of CSS-CII that opens tells a companion nothing
pub dialled-aside : (peer : ℕ) (own : History) → IsAside (Dialled session.Cii peer) own
dialled-aside peer own = search rules

-- nor does what it wrote
pub wrote-aside : (peer : ℕ) (bytes : List ℕ) (own : History) → IsAside (Wrote peer bytes) own
wrote-aside peer bytes own = search rules

-- nor does a reading of its clock for a report
pub turn-aside : (reading : ℕ) (own : History) → IsAside (Clock why.Turn reading) own
turn-aside reading own = search rules

-- what an event did to the television and the sessions, whatever it stood for
abbrev pub WhenPlayed : TvEvent → Tv → Tv → List Lane → List Lane → Type 0
WhenPlayed e old new before after = (events : List TvEvent) → tvs.StandsFor old.stage events
    → tvs.IsFresh e (calls_of addresses events).sessions → AllArePlayed events e new before after

-- what an event did to the companion, whatever it stood for
abbrev pub WhenAttended : CompanionEvent → Companion → Companion → Type 0
WhenAttended e old new =
    (history : History) (entry : Entry) → companions.StandsFor old history → IsEntryOf e entry history
    → companions.StandsFor new (entry ∷ history)

-- what opening its session did to the companion
abbrev pub WhenGreeted : Kind → Companion → Companion → Type 0
WhenGreeted k old new =
    (older own : History) → companions.StandsFor old older → IsDialled k older own → companions.StandsFor new own

-- what an open session gives
given-text : (live : Bool) (next : Option (List ℕ)) (text : List ℕ) → cond live next None ≡ Some text
    → (live ≡ true) × (next ≡ Some text) × ((live && is_some next) ≡ true)
given-text live next text is = grind (arith, is)

-- what one gives that has no text
no-text : (live : Bool) (next : Option (List ℕ)) → cond live next None ≡ None → (live && is_some next) ≡ false
no-text live next is = grind (arith, is)

module _ (header : Header) (lines : List Numbered) (who : ℕ) where
  -- what happened at the television, what the companion did, and a session that stands for both
  abbrev events : List TvEvent
  events = events_of header lines

  abbrev own : History
  own = history_of who header lines

  abbrev Stands : Kind → Session → Type 0
  Stands k session = SessionStands (peer_of who k) events own session

  -- ---- openings
  -- a session that opens was never open
  pub never-open : (k : Kind) (old new : Session) → Stands k old → opened old ≡ Ok new
      → was_opened (peer_of who k) own ≡ false
  never-open k old new stands ok =
      (opened-ok old.phase (is_open (peer_of who k) own) (was_opened (peer_of who k) own) old new stands.phase ok).1

  -- so it can open
  pub can-open : (k : Kind) (old new : Session) → Stands k old → opened old ≡ Ok new
      → can_happen header lines who (Opening k) ≡ true
  can-open k old new stands ok = ap not (never-open k old new stands ok)

  -- one that doesn't can't
  pub cannot-open : (k : Kind) (old : Session) (fault : WorldFault) → Stands k old → opened old ≡ Err fault
      → (can_happen header lines who (Opening k) ≡ false) × (fault ≡ Absent)
  cannot-open k old fault stands err =
      let why =
      opened-err old.phase (is_open (peer_of who k) own) (was_opened (peer_of who k) own) old fault stands.phase err in
      (ap not (by why.0), why.1)
    where
      by : (is_open (peer_of who k) own ≡ true) ⊎ (was_opened (peer_of who k) own ≡ true)
          → was_opened (peer_of who k) own ≡ true
      by (inl live) = open_was (peer_of who k) own live
      by (inr was) = was

  -- nothing was said on a session that opens
  pub opens : (k : Kind) (old new : Session) → 1 ≤ who → AreAccepted header lines → Stands k old → opened old ≡ Ok new
      → SessionCarries new true true (told_to (peer_of who k) events) (heard_from (peer_of who k) own)
      (written_to (peer_of who k) own) (received_from (peer_of who k) events)
  opens k old new first accepted stands ok =
      let peer = peer_of who k in
      let shut = opened-ok old.phase (is_open peer own) (was_opened peer own) old new stands.phase ok in
      let carries : SessionCarries old false false (told_to peer events) (heard_from peer own) (written_to peer own)
      (received_from peer events) = rw shut.0 at (rw shut.1 at stands) in
      rw shut.2 (opened-now old _ _ _ _ carries (untold header lines who k first accepted shut.1)
      (unwritten header lines who k first accepted shut.1))

  -- ---- ends
  -- a session that closes is open, so it can close
  pub can-close : (k : Kind) (old new : Session) → Stands k old → closed old ≡ Ok new
      → can_happen header lines who (Close k) ≡ true
  can-close k old new stands ok =
      (closed-ok old.phase (is_open (peer_of who k) own) (was_opened (peer_of who k) own) new stands.phase ok).0

  -- one that doesn't isn't
  pub cannot-close : (k : Kind) (old : Session) (fault : WorldFault) → Stands k old → closed old ≡ Err fault
      → (can_happen header lines who (Close k) ≡ false) × (fault ≡ Absent)
  cannot-close k old fault stands err =
      closed-err old.phase (is_open (peer_of who k) own) (was_opened (peer_of who k) own) fault stands.phase err

  -- nothing is in flight on a session that closes
  pub closes : (k : Kind) (old new : Session) → Stands k old → closed old ≡ Ok new
      → SessionCarries new false (was_opened (peer_of who k) own) (told_to (peer_of who k) events)
      (heard_from (peer_of who k) own) (written_to (peer_of who k) own) (received_from (peer_of who k) events)
  closes k old new stands ok =
      let peer = peer_of who k in
      let live = closed-ok old.phase (is_open peer own) (was_opened peer own) new stands.phase ok in
      let carries : SessionCarries old true (was_opened peer own) (told_to peer events) (heard_from peer own)
      (written_to peer own) (received_from peer events) = rw live.0 at stands in
      rw live.1 (closed-now old (was_opened peer own) _ _ _ _ carries (open_was peer own live.0))

  -- ---- texts
  -- a text that is taken out of a queue is the next one
  pub can-bring : (k : Kind) (old : Session) (text : List ℕ) → Stands k old → first_in old.phase old.down ≡ Some text
      → (is_open (peer_of who k) own ≡ true) × (next_down who k events own ≡ Some text)
      × (can_happen header lines who (Bring k) ≡ true)
  can-bring k old text stands is =
      given-text (is_open (peer_of who k) own) (next_down who k events own) text (sym (first-down stands) ∙ is)

  -- where none is, none comes
  pub cannot-bring : (k : Kind) (old : Session) → Stands k old → first_in old.phase old.down ≡ None
      → can_happen header lines who (Bring k) ≡ false
  cannot-bring k old stands is =
      no-text (is_open (peer_of who k) own) (next_down who k events own) (sym (first-down stands) ∙ is)

  -- so it is of the companion's texts
  pub can-raise : (old : Session) (text : List ℕ) → SessionStands (ts_of who) events own old
      → first_in old.phase old.up ≡ Some text → (is_open (ts_of who) own ≡ true) × (next_up who events own ≡ Some text)
      × (can_happen header lines who Up ≡ true)
  can-raise old text stands is =
      given-text (is_open (ts_of who) own) (next_up who events own) text (sym (first-up stands) ∙ is)

  -- where none is, none goes up
  pub cannot-raise : (old : Session) → SessionStands (ts_of who) events own old → first_in old.phase old.up ≡ None
      → can_happen header lines who Up ≡ false
  cannot-raise old stands is = no-text (is_open (ts_of who) own) (next_up who events own) (sym (first-up stands) ∙ is)

  -- the next text of the companion is what happens at the television
  pub up-event : (text : List ℕ) → next_up who events own ≡ Some text
      → event_at header lines who Up ≡ Some (event.Heard (ts_of who) text)
  up-event text next = ap (option_map (event.Heard (ts_of who))) next

  -- a presentation is sent while the session is open
  pub can-present : (earliest latest : Bound) (old : Session) → SessionStands (ts_of who) events own old
      → old.phase ≡ phases.Open → can_happen header lines who (Present earliest latest) ≡ true
  can-present earliest latest old stands live =
      is-live (is_open (ts_of who) own) (was_opened (ts_of who) own) (sym stands.phase ∙ live)

  -- none is while it isn't
  pub cannot-present : (earliest latest : Bound) (old : Session) → SessionStands (ts_of who) events own old
      → (old.phase ≡ phases.Open → ⊥) → can_happen header lines who (Present earliest latest) ≡ false
  cannot-present earliest latest old stands shut =
      by (is_open (ts_of who) own) stands.phase
    where
      by : (b : Bool) → old.phase ≡ phase_of b (was_opened (ts_of who) own) → b ≡ false
      by true is = absurd (shut is)
      by false is = refl

  -- what happens at the television alone can always happen
  pub carried-at-tv : (verb : Verb) (e : TvEvent) → IsAtTv verb e
      → carried header lines who verb ≡ played events (Some e)
  carried-at-tv (Programme content_id) e is = ap (λ x. played events (Some x)) (sym is)
  carried-at-tv (Timeline programme selector rate base) e is = ap (λ x. played events (Some x)) (sym is)
  carried-at-tv (Viewer reading command) e is = ap (λ x. played events (Some x)) (sym is)
  carried-at-tv _ e is = absurd is

-- ---- what a session stands for
-- a session carries what its companion's history and the television's events say
pub session_as : (s : Session) (peer : ℕ) (events : List TvEvent) (own : History) (live opened : Bool)
    (heard written received : List (List ℕ))
    → is_open peer own ≡ live → was_opened peer own ≡ opened → heard_from peer own ≡ heard
    → written_to peer own ≡ written → received_from peer events ≡ received
    → SessionCarries s live opened (told_to peer events) heard written received → SessionStands peer events own s
session_as s peer events own live opened heard written received a b c d e carries = rw (a, b, c, d, e) carries
