-- What happens at a session is carried out: both ends stand for the line too.
use Rattle.std.proofs.Common.{◌≡◌, ◌≤◌, ◌-◌, ◌==◌, ℕ, true, false, List, ◌∷◌, length, arith, ◌++◌, refl, ap, sym, ◌∙◌}
use Rattle.std.proofs.Common.{inl, option_map, option_to_list, slice_set, Option, Some, None, Ok}
use Rattle.css_model.specs.declared.Kind.TheVariants as session
use Rattle.css_num.specs.declared.protocol.Kind.TheVariants as kind
use Rattle.css_sessions.specs.Kept.{Kept, talk_of}
use Rattle.css_sessions.specs.Told.{sessions_of}
use Rattle.css_tsmsg.specs.Presentations.{presentation_text}
use Rattle.css_tsmsg.specs.Setups.{setup_text}
use Rattle.css_tv.specs.Stages.{Television as Tv}
use Rattle.css_tv.specs.declared.event.TvEvent.TheVariants as event
use Rattle.css_companion.specs.Standing as companions
use Rattle.css_companion.specs.Contents.{next_number, told}
use Rattle.css_companion.specs.Meanings.{kind_of, texts_of}
use Rattle.css_companion.specs.declared.event.CompanionEvent.TheVariants as happening
use Rattle.css_meaning.proofs.Entries.{dialled-open, dialled-was, dialled-open_apart, dialled-was_apart, closed-open}
use Rattle.css_meaning.proofs.Entries.{closed-open_apart, heard-apart, wrote-one, heard-one as heard-now, wrote-apart}
use Rattle.css_meaning.proofs.Entries.{received-one, received-apart}
use Rattle.css_meaning.proofs.Staged.{never_opened, no_talk}
use Rattle.css_meaning.proofs.InOrder.{text_is_taken}
use Rattle.css_meaning.proofs.Dialled.{dialled_as, open_kind}
use Rattle.css_world.specs.declared.lane.Lane.{Lane}
use Rattle.css_world.specs.declared.session.Phase.TheVariants as phases
use Rattle.css_world.specs.Flights.{Session, opened, closed, first_in, rest_in, with_written, SessionCarries}
use Rattle.css_world.specs.Flights.{SessionStands, HasNews}
use Rattle.css_world.specs.Lanes.{LaneStands, KeepsAllButTexts, IsPlayed, KeepsAllBut, session_at, other, next_at}
use Rattle.css_world.specs.Lanes.{taken_at, heard_as, closed_as, Greets}
use Rattle.css_world.specs.Standing.{Kept as Both, EndsStand, IsReady}
use Rattle.css_world.proofs.Names.{History, Dialled, Heard, Wrote, Closed, Kind, Bound, Setup, calls_of, TvEvent}
use Rattle.css_world.proofs.Names.{Companion, window, owed, none_owed, IsEvent, IsEntryOf, Verb, Opening, Bring, Up}
use Rattle.css_world.proofs.Names.{Present, Close, addresses, peer_of, setup_of, is_open, was_opened, heard_from}
use Rattle.css_world.proofs.Names.{written_to, received_from, told_to, next_down, Numbered, dialled, events_of}
use Rattle.css_world.proofs.Names.{history_of, stored, IsDeclared, played, AreAccepted, cii_of, ts_of, cii-ts, ts-cii}
use Rattle.css_world.proofs.Carrying.{own_line, one_lane}
use Rattle.css_world.proofs.Flights.{is-live, heard-one, raised-one, written-one}
use Rattle.css_world.proofs.Verbs.{quiet, session-played, aside, dialled-aside, wrote-aside, WhenPlayed, WhenAttended}
use Rattle.css_world.proofs.Verbs.{WhenGreeted, never-open, opens, can-close, closes, can-bring, can-raise, session_as}
use Rattle.css_world.proofs.AtTelevision.{event_lanes, attended_lanes}

-- ---- one session of a lane
-- the peers of a companion's two sessions differ
two_peers : (who : ℕ) (k : Kind) → 1 ≤ who → (peer_of who k == peer_of who (other k)) ≡ false
two_peers who kind.Cii first = cii-ts who first
two_peers who kind.Ts first = ts-cii who first

-- a lane's session of a kind, of both
at_kind : (k : Kind) (who : ℕ) (events : List TvEvent) (own : History) (lane : Lane)
    → LaneStands who events own lane → SessionStands (peer_of who k) events own (session_at k lane)
at_kind kind.Cii who events own lane stands = stands.cii
at_kind kind.Ts who events own lane stands = stands.ts

-- so it is of ready ends
pub stands_at : {ends : Both} {lines : List Numbered} (ready : IsReady ends lines) (who : ℕ) (k : Kind) {lane : Lane}
    → stored ends.lanes who ≡ Some lane
    → SessionStands (peer_of who k) (events_of ends.header lines) (history_of who ends.header lines) (session_at k lane)
stands_at {ends} {lines} ready who k {lane} found =
    at_kind k who (events_of ends.header lines) (history_of who ends.header lines) lane
    (ready.ends.lanes who lane found)

played_at : (k : Kind) (who : ℕ) (events : List TvEvent) (e : TvEvent) (old new : Lane) → IsPlayed who events e old new
    → HasNews (peer_of who k) events e (session_at k old) (session_at k new)
played_at kind.Cii who events e old new played = played.cii
played_at kind.Ts who events e old new played = played.ts

same_at : (k : Kind) (old new : Lane) → new.cii ≡ old.cii → new.ts ≡ old.ts → session_at k new ≡ session_at k old
same_at kind.Cii old new cii ts = cii
same_at kind.Ts old new cii ts = ts

-- The lane stands where its companion and both sessions do.
both_at : (k : Kind) (who : ℕ) (events : List TvEvent) (own : History) (lane : Lane)
    → companions.StandsFor lane.companion own → SessionStands (peer_of who k) events own (session_at k lane)
    → SessionStands (peer_of who (other k)) events own (session_at (other k) lane) → LaneStands who events own lane
both_at kind.Cii who events own lane companion here there = record { companion = companion; cii = here; ts = there }
both_at kind.Ts who events own lane companion here there = record { companion = companion; cii = there; ts = here }

-- the entries of what a companion tells of its sessions
heard_entry : (k : Kind) (peer : ℕ) (text : List ℕ) (own : History) → kind_of peer own ≡ Some (dialled_as k)
    → IsEntryOf (heard_as k text) (Heard peer text) own
heard_entry kind.Cii peer text own is = (peer, refl, is)
heard_entry kind.Ts peer text own is = (peer, refl, is)

closed_entry : (k : Kind) (peer : ℕ) (own : History) → kind_of peer own ≡ Some (dialled_as k)
    → IsEntryOf (closed_as k) (Closed peer) own
closed_entry kind.Cii peer own is = (peer, inl refl, is)
closed_entry kind.Ts peer own is = (peer, inl refl, is)

-- none of both has bounds
pub heard_event : (k : Kind) (text : List ℕ) → IsEvent (heard_as k text)
heard_event k text = grind arith

pub closed_event : (k : Kind) → IsEvent (closed_as k)
closed_event k = grind arith

-- nothing is owed after a session closes
pub owes-nothing : (k : Kind) (companion : Companion) → owed companion (closed_as k) ≡ Ok None
owes-nothing kind.Cii companion = refl
owes-nothing kind.Ts companion = refl

module _ (old : Both) (lines : List Numbered) (number t w who l : ℕ) where
  -- what happened at the television and what the companion did before the line, and the lines with it
  abbrev events : List TvEvent
  events = events_of old.header lines

  abbrev own : History
  own = history_of who old.header lines

  abbrev after : Verb → List Numbered
  after verb = own_line number t w who l verb ∷ lines

  abbrev Stands : Kind → Session → Type 0
  Stands k session = SessionStands (peer_of who k) events own session

  -- ---- what was not touched
  -- the companion, from the own session's change on
  stood_on : (k : Kind) (lane between mid : Lane) → LaneStands who events own lane → KeepsAllBut k lane between
      → mid.companion ≡ between.companion → companions.StandsFor mid.companion own
  stood_on k lane between mid before rest same = rw (same ∙ rest.companion) before.companion

  -- and the other session
  other_stood : (k : Kind) (lane between : Lane) → LaneStands who events own lane → KeepsAllBut k lane between
      → Stands (other k) (session_at (other k) between)
  other_stood k lane between before rest = rw rest.other (at_kind (other k) who events own lane before)

  -- ---- openings
  -- the television has no session of a peer that opens one
  pub no-session : (k : Kind) (before after : Session) (peer : ℕ) → 1 ≤ who → AreAccepted old.header lines
      → EndsStand old lines → Stands k before → opened before ≡ Ok after → old.tv.tv.stage.addresses ≡ addresses
      → peer ≡ peer_of who k → talk_of peer old.tv.tv.stage.sessions.list ≡ None
  no-session k before after peer first accepted ends stands ok same is =
      ap (λ p. talk_of p old.tv.tv.stage.sessions.list) is
      ∙ ap (λ (kept : Kept). talk_of (peer_of who k) kept.list) ends.stage.sessions.same
      ∙ ap (λ a. talk_of (peer_of who k) (sessions_of (calls_of a events).sessions).list) same
      ∙ no_talk old.header lines who k first accepted (never-open old.header lines who k before after stands ok)

  -- A session is dialled, and the companion writes its setup where that is a TS session.
  greeted : (k : Kind) (mid final : Lane) → 1 ≤ who → companions.StandsFor mid.companion own
      → SessionCarries (session_at k mid) true true
      (told_to (peer_of who k) (event.Opened (peer_of who k) k ∷ events)) (heard_from (peer_of who k) own)
      (written_to (peer_of who k) own) (received_from (peer_of who k) events)
      → SessionStands (peer_of who (other k)) (event.Opened (peer_of who k) k ∷ events) own (session_at (other k) mid)
      → mid.companion.setup ≡ setup_of who old.header → WhenGreeted k mid.companion final.companion
      → final.cii ≡ mid.cii → Greets k mid final
      → LaneStands who (event.Opened (peer_of who k) k ∷ events) (dialled old.header who k own) final
  greeted kind.Cii mid final first stood here there asks greets same_cii after =
      let peer = cii_of who in
      let now = event.Opened peer kind.Cii ∷ events in
      let history = Dialled session.Cii peer ∷ own in
      let apart = cii-ts who first in
      record {
        companion = aside final.companion (Dialled session.Cii peer) own (dialled-aside peer own)
            (greets own own stood refl);
        cii = rw same_cii (session_as mid.cii peer now history _ _ _ _ _ (dialled-open peer session.Cii own)
            (dialled-was peer session.Cii own) refl refl refl here);
        ts = rw after (session_as mid.ts (ts_of who) now history _ _ _ _ _
            (dialled-open_apart (ts_of who) peer apart session.Cii own)
            (dialled-was_apart (ts_of who) peer apart session.Cii own) refl refl refl there);
      }
  greeted kind.Ts mid final first stood here there asks greets same_cii after =
      let peer = ts_of who in
      let now = event.Opened peer kind.Ts ∷ events in
      let setup = setup_text (setup_of who old.header) in
      let begun = Dialled session.Ts peer ∷ own in
      let history = Wrote peer setup ∷ begun in
      let apart = ts-cii who first in
      let written : final.ts ≡ with_written (Some setup) mid.ts =
      after ∙ ap (λ (u : Setup). with_written (Some (setup_text u)) mid.ts) asks in
      record {
        companion = aside final.companion (Wrote peer setup) begun (wrote-aside peer setup begun)
            (greets own begun stood (peer, refl));
        cii = rw same_cii (session_as mid.cii (cii_of who) now history _ _ _ _ _
            (dialled-open_apart (cii_of who) peer apart session.Ts own)
            (dialled-was_apart (cii_of who) peer apart session.Ts own) refl
            (wrote-apart (cii_of who) peer apart setup begun) refl there);
        ts = session_as final.ts peer now history _ _ _ _ _ (dialled-open peer session.Ts own)
            (dialled-was peer session.Ts own) refl (wrote-one peer setup begun) refl
            (rw written (written-one setup here));
      }

  -- a session opens
  pub opens_at : (k : Kind) (lane between mid final : Lane) (tv : Tv) (played : List Lane)
      → AreAccepted old.header lines → EndsStand old lines → 1 ≤ who → who ≤ length old.lanes
      → stored old.lanes who ≡ Some lane → opened (session_at k lane) ≡ Ok (session_at k between)
      → KeepsAllBut k lane between
      → WhenPlayed (event.Opened (peer_of who k) k) old.tv.tv tv (slice_set old.lanes (who - 1) between) played
      → tv.server ≡ old.tv.tv.server → KeepsAllButTexts (slice_set old.lanes (who - 1) between) played
      → stored played who ≡ Some mid → lane.companion.setup ≡ setup_of who old.header
      → WhenGreeted k mid.companion final.companion → final.cii ≡ mid.cii → Greets k mid final
      → EndsStand (record old { tv = record old.tv { tv = tv }; lanes = slice_set played (who - 1) final })
      (after (Opening k))
  opens_at k lane between mid final tv played accepted ends first within found ok rest plays same kept there asked
      greets same_cii after =
      let e = event.Opened (peer_of who k) k in
      let before = ends.lanes who lane found in
      let mine = at_kind k who events own lane before in
      let never = never-open old.header lines who k (session_at k lane) (session_at k between) mine ok in
      let done = plays events ends.stage (never_opened old.header lines who k first accepted never) in
      quiet old lines number t w who l (Opening k) tv (slice_set played (who - 1) final) tt ends same done.stage
      (attended_lanes old lines number t w who l (Opening k) e tv between mid final played ends
      (record { first = first; within = within; is = refl; k = k; own = λ peer. refl; all = done; kept = kept }) there
      (λ now companion.
      greeted k mid final first (stood_on k lane between mid before rest companion)
      (session-played (played_at k who events e between mid now)
      (opens old.header lines who k (session_at k lane) (session_at k between) first accepted mine ok))
      (session-played (played_at (other k) who events e between mid now) (other_stood k lane between before rest))
      (ap (λ (c : Companion). c.setup) (companion ∙ rest.companion) ∙ asked) greets same_cii after))

  -- ---- texts
  -- a text of the television comes
  pub brings : (k : Kind) (text : List ℕ) (lane between final : Lane) → AreAccepted old.header lines
      → EndsStand old lines → 1 ≤ who → who ≤ length old.lanes → stored old.lanes who ≡ Some lane
      → next_at k lane ≡ Some text → session_at k between ≡ taken_at k lane → KeepsAllBut k lane between
      → final.cii ≡ between.cii → final.ts ≡ between.ts
      → WhenAttended (heard_as k text) between.companion final.companion
      → EndsStand (record old { lanes = slice_set old.lanes (who - 1) final }) (after (Bring k))
  brings k text lane between final accepted ends first within found first_text after rest same_cii same_ts attends =
      let peer = peer_of who k in
      let apart = peer_of who (other k) in
      let history = Heard peer text ∷ own in
      let before = ends.lanes who lane found in
      let mine = at_kind k who events own lane before in
      let next = can-bring old.header lines who k (session_at k lane) text mine first_text in
      let live : SessionCarries (session_at k lane) true (was_opened peer own) (told_to peer events)
      (heard_from peer own) (written_to peer own) (received_from peer events) = rw next.0 at mine in
      let stands : LaneStands who events history final =
      both_at k who events history final
      (attends own (Heard peer text) (rw rest.companion before.companion)
      (heard_entry k peer text own (open_kind old.header lines who k first accepted next.0)))
      (session_as (session_at k final) peer events history _ _ _ _ _ next.0 refl (heard-now peer text own) refl refl
      (rw (same_at k between final same_cii same_ts ∙ after) (heard-one text live first_text)))
      (session_as (session_at (other k) final) apart events history _ _ _ _ _ refl refl
      (heard-apart apart peer (two_peers who k first) text own) refl refl
      (rw (same_at (other k) between final same_cii same_ts) (other_stood k lane between before rest))) in
      quiet old lines number t w who l (Bring k) old.tv.tv (slice_set old.lanes (who - 1) final) tt ends refl ends.stage
      (one_lane old.header lines number t w who l (Bring k) old.lanes final refl first within ends.lanes
      (rw next.1 stands))

  -- a text of the television is never refused, and nothing is owed after it
  pub owes-none : (k : Kind) (lane between : Lane) (text : List ℕ) → 1 ≤ who → IsDeclared old.header
      → AreAccepted old.header lines → EndsStand old lines → stored old.lanes who ≡ Some lane
      → between.companion ≡ lane.companion → next_down who k events own ≡ Some text
      → owed between.companion (heard_as k text) ≡ Ok None
  owes-none kind.Cii lane between text first declared accepted ends found same next =
      let before = ends.lanes who lane found in
      ap (λ (c : Companion). owed c (happening.CiiText text)) same
      ∙ ap (λ k. none_owed (told (next_number k) lane.companion.state text)) before.companion.texts
      ∙ ap (λ s. none_owed (told (next_number (texts_of own)) s text)) before.companion.state
      ∙ ap none_owed (text_is_taken old.header lines who text first declared accepted next).1
  owes-none kind.Ts lane between text first declared accepted ends found same next = refl

  -- a text of the companion comes to the television
  pub raises : (text : List ℕ) (lane : Lane) (ts : Session) (tv : Tv) (lanes : List Lane) → EndsStand old lines
      → 1 ≤ who → who ≤ length old.lanes → stored old.lanes who ≡ Some lane
      → first_in lane.ts.phase lane.ts.up ≡ Some text → ts ≡ record lane.ts { up = rest_in lane.ts.phase lane.ts.up }
      → WhenPlayed (event.Heard (ts_of who) text) old.tv.tv tv
      (slice_set old.lanes (who - 1) (record lane { ts = ts })) lanes → tv.server ≡ old.tv.tv.server
      → KeepsAllButTexts (slice_set old.lanes (who - 1) (record lane { ts = ts })) lanes
      → EndsStand (record old { tv = record old.tv { tv = tv }; lanes = lanes }) (after Up)
  raises text lane ts tv lanes ends first within found first_text left plays same kept =
      let peer = ts_of who in
      let e = event.Heard peer text in
      let before = ends.lanes who lane found in
      let next = can-raise old.header lines who lane.ts text before.ts first_text in
      let is : events_of old.header (after Up) ≡ e ∷ events =
      ap (λ (o : Option (List ℕ)). option_to_list (option_map (event.Heard peer) o) ++ events) next.1 in
      let done = plays events ends.stage tt in
      let live : SessionCarries lane.ts true (was_opened peer own) (told_to peer events) (heard_from peer own)
      (written_to peer own) (received_from peer events) = rw next.0 at before.ts in
      let raised : SessionCarries ts true (was_opened peer own) (told_to peer events) (heard_from peer own)
      (written_to peer own) (text ∷ received_from peer events) = rw left (raised-one text live first_text) in
      quiet old lines number t w who l Up tv lanes tt ends same (rw is done.stage)
      (event_lanes old lines number t w who l Up e tv (record lane { ts = ts }) lanes ends
      (record { first = first; within = within; is = is; k = kind.Ts; own = λ peer. refl; all = done; kept = kept })
      (λ final played companion. record {
        companion = rw companion before.companion;
        cii = session_as final.cii (cii_of who) (e ∷ events) own _ _ _ _ _ refl refl refl refl
            (received-apart (cii_of who) peer (ts-cii who first) text events) (session-played played.cii before.cii);
        ts = session_as final.ts peer (e ∷ events) own _ _ _ _ _ next.0 refl refl refl
            (received-one peer text events) (session-played played.ts raised);
      }))

  -- the companion writes a presentation
  pub presents : (earliest latest : Bound) (lane final : Lane) → EndsStand old lines
      → 1 ≤ who → who ≤ length old.lanes → stored old.lanes who ≡ Some lane → lane.ts.phase ≡ phases.Open
      → final.companion ≡ lane.companion → final.cii ≡ lane.cii
      → final.ts ≡ with_written (Some (presentation_text (window earliest latest))) lane.ts
      → EndsStand (record old { lanes = slice_set old.lanes (who - 1) final }) (after (Present earliest latest))
  presents earliest latest lane final ends first within found is_live same_companion same_cii after =
      let peer = ts_of who in
      let before = ends.lanes who lane found in
      let text : List ℕ = presentation_text (window earliest latest) in
      let history = Wrote peer text ∷ own in
      let live : is_open peer own ≡ true =
      is-live (is_open peer own) (was_opened peer own) (sym before.ts.phase ∙ is_live) in
      let carries : SessionCarries lane.ts true (was_opened peer own) (told_to peer events) (heard_from peer own)
      (written_to peer own) (received_from peer events) = rw live at before.ts in
      let stands : LaneStands who events history final = record {
        companion = rw same_companion (aside lane.companion (Wrote peer text) own (wrote-aside peer text own)
            before.companion);
        cii = rw same_cii (session_as lane.cii (cii_of who) events history _ _ _ _ _ refl refl refl
            (wrote-apart (cii_of who) peer (ts-cii who first) text own) refl before.cii);
        ts = session_as final.ts peer events history _ _ _ _ _ live refl refl (wrote-one peer text own) refl
            (rw after (written-one text carries));
      } in
      quiet old lines number t w who l (Present earliest latest) old.tv.tv (slice_set old.lanes (who - 1) final) tt ends
      refl ends.stage
      (one_lane old.header lines number t w who l (Present earliest latest) old.lanes final refl first within ends.lanes
      stands)

  -- ---- ends of sessions
  -- a session closes
  pub closes_at : (k : Kind) (lane between mid final : Lane) (tv : Tv) (played : List Lane)
      → AreAccepted old.header lines → EndsStand old lines → 1 ≤ who → who ≤ length old.lanes
      → stored old.lanes who ≡ Some lane → closed (session_at k lane) ≡ Ok (session_at k between)
      → KeepsAllBut k lane between
      → WhenPlayed (event.Closed (peer_of who k)) old.tv.tv tv (slice_set old.lanes (who - 1) between) played
      → tv.server ≡ old.tv.tv.server → KeepsAllButTexts (slice_set old.lanes (who - 1) between) played
      → stored played who ≡ Some mid → WhenAttended (closed_as k) mid.companion final.companion
      → final.cii ≡ mid.cii → final.ts ≡ mid.ts
      → EndsStand (record old { tv = record old.tv { tv = tv }; lanes = slice_set played (who - 1) final })
      (after (Close k))
  closes_at k lane between mid final tv played accepted ends first within found ok rest plays same kept there attends
      same_cii same_ts =
      let peer = peer_of who k in
      let apart = peer_of who (other k) in
      let e = event.Closed peer in
      let history = Closed peer ∷ own in
      let before = ends.lanes who lane found in
      let mine = at_kind k who events own lane before in
      let done = plays events ends.stage tt in
      let live = can-close old.header lines who k (session_at k lane) (session_at k between) mine ok in
      quiet old lines number t w who l (Close k) tv (slice_set played (who - 1) final) tt ends same done.stage
      (attended_lanes old lines number t w who l (Close k) e tv between mid final played ends
      (record { first = first; within = within; is = refl; k = k; own = λ peer. refl; all = done; kept = kept }) there
      (λ now companion.
      both_at k who (e ∷ events) history final
      (attends own (Closed peer) (stood_on k lane between mid before rest companion)
      (closed_entry k peer own (open_kind old.header lines who k first accepted live)))
      (rw (same_at k mid final same_cii same_ts) (session_as (session_at k mid) peer (e ∷ events) history _ _ _ _ _
      (closed-open peer own) refl refl refl refl (session-played (played_at k who events e between mid now)
      (closes old.header lines who k (session_at k lane) (session_at k between) mine ok))))
      (rw (same_at (other k) mid final same_cii same_ts) (session_as (session_at (other k) mid) apart (e ∷ events)
      history _ _ _ _ _ (closed-open_apart apart peer (two_peers who k first) own) refl refl refl refl
      (session-played (played_at (other k) who events e between mid now) (other_stood k lane between before rest))))))
