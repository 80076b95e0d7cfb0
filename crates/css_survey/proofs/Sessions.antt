-- A companion opens its two sessions by five lines: each of them can happen, whatever sessions other companions opened
-- before.
use Rattle.std.proofs.Common.{◌≡◌, ◌≢◌, ℕ, suc, ◌+◌, ◌<◌, ◌≤◌, arith, ap, ◌∙◌, refl, Bool, true, false, cond, eqb, List}
use Rattle.std.proofs.Common.{[], ◌∷◌, length, option_map, lt-ltb, eq-eqb, ne_eqb, Option, Some, None, nat_lt, ◌==◌, Ok}
use Rattle.css_model.specs.declared.Kind.TheVariants as session
use Rattle.css_model.specs.History.{History, Dialled, Heard, Wrote}
use Rattle.css_player.specs.Events.{player_of}
use Rattle.css_tsmsg.specs.Controls.{control_text}
use Rattle.css_tsmsg.specs.Setups.{setup_text, setup_of as setup_read}
use Rattle.css_tsmsg.specs.declared.setup.Setup.{Setup}
use Rattle.css_num.specs.declared.protocol.Kind.{Kind}
use Rattle.css_num.specs.declared.protocol.Kind.TheVariants as kind
use Rattle.css_sessions.specs.declared.session.Session.{Session}
use Rattle.css_sessions.specs.declared.session.Talk.{Talk}
use Rattle.css_sessions.specs.declared.session.Talk.TheVariants as talk
use Rattle.css_sessions.specs.Offsets.{control_for}
use Rattle.css_sessions.specs.Kept.{Event as SessionsCall, Opened, SetUp, full_text, talk_of, begun, with_session}
use Rattle.css_sessions.specs.Kept.{with_talk}
use Rattle.css_sessions.specs.Told.{born, set_life, living, when, life_of, state_of, texts_of, texts_of_lived}
use Rattle.css_sessions.specs.Told.{sessions_of}
use Rattle.css_sessions.proofs.Talks.{talk_of-with_session}
use Rattle.css_tv.specs.Standing.{Calls, calls_of}
use Rattle.css_tv.specs.declared.event.TvEvent.{TvEvent}
use Rattle.css_tv.specs.declared.event.TvEvent.TheVariants as event
use Rattle.css_survey.specs.Generated.{heading}
use Rattle.css_meaning.proofs.Entries.{dialled-open, dialled-was_apart, heard-apart, wrote-one, received-apart}
use Rattle.css_meaning.proofs.Peers.{cii_of, ts_of, cii-ts, others-peer}
use Rattle.css_survey.proofs.Names.{Header, Verb, Opening, Bring, Up, addresses, setup_of, received_from, told_to}
use Rattle.css_survey.proofs.Names.{next_down, next_up, Numbered, events_of, history_of, can_talk, played, carried_out}

-- ---- the open sessions
-- those after these events
abbrev pub list_of : List TvEvent → List Session
list_of events = (sessions_of (calls_of addresses events).sessions).list

-- one that opens is one more
length-opened : (new : Session) (ss : List Session) → length (with_session new ss) ≡ suc (length ss)
length-opened new [] = refl
length-opened new (s ∷ ss) = by (nat_lt s.peer new.peer) (length-opened new ss)
  where
    by : (b : Bool) → length (with_session new ss) ≡ suc (length ss)
        → length (cond b (s ∷ with_session new ss) (new ∷ s ∷ ss)) ≡ suc (length (s ∷ ss))
    by true more = ap suc more
    by false more = refl

-- one that is set up is none more
length-set : (peer : ℕ) (t : Talk) (ss : List Session) → length (with_talk peer t ss) ≡ length ss
length-set peer t [] = refl
length-set peer t (s ∷ ss) = by (eqb s.peer peer) (length-set peer t ss)
  where
    by : (b : Bool) → length (with_talk peer t ss) ≡ length ss
        → length (cond b (record { peer = s.peer; talk = t } ∷ ss) (s ∷ with_talk peer t ss)) ≡ length (s ∷ ss)
    by true same = refl
    by false same = ap suc same

-- ---- the calls of an event
-- one call more of the sessions
abbrev with_call : SessionsCall → Calls → Calls
with_call call calls = record { player = calls.player; sessions = call ∷ calls.sessions }

-- a session opens while there is room
opened-calls : (peer : ℕ) (k : Kind) (events : List TvEvent) → length (list_of events) < 256
    → calls_of addresses (event.Opened peer k ∷ events) ≡ with_call (Opened peer k) (calls_of addresses events)
opened-calls peer k events room = simp (lt-ltb (length (list_of events)) 256 room)

-- a setup comes on a session that waits for it
heard-calls : (peer : ℕ) (bytes : List ℕ) (setup : Setup) (events : List TvEvent)
    → talk_of peer (list_of events) ≡ Some talk.Waiting → setup_read bytes ≡ Ok setup
    → calls_of addresses (event.Heard peer bytes ∷ events)
    ≡ with_call (SetUp peer setup (player_of (calls_of addresses events).player)) (calls_of addresses events)
heard-calls peer bytes setup events waits reads = simp (waits, reads)

-- a session that opened talks as it began
opened-talk : (peer : ℕ) (k : Kind) (events : List TvEvent) → length (list_of events) < 256
    → talk_of peer (list_of (event.Opened peer k ∷ events)) ≡ Some (begun k)
opened-talk peer k events room =
    ap (λ (c : Calls). talk_of peer (sessions_of c.sessions).list) (opened-calls peer k events room)
    ∙ talk_of-with_session (record { peer = peer; talk = begun k }) (list_of events) peer
    ∙ ap (λ b. cond b (Some (begun k)) (talk_of peer (list_of events))) (eq-eqb peer peer refl)

-- how many sessions are open after either
opened-length : (peer : ℕ) (k : Kind) (events : List TvEvent) → length (list_of events) < 256
    → length (list_of (event.Opened peer k ∷ events)) ≡ suc (length (list_of events))
opened-length peer k events room =
    ap (λ (c : Calls). length (sessions_of c.sessions).list) (opened-calls peer k events room)
    ∙ length-opened (record { peer = peer; talk = begun k }) (list_of events)

heard-length : (peer : ℕ) (bytes : List ℕ) (setup : Setup) (events : List TvEvent)
    → talk_of peer (list_of events) ≡ Some talk.Waiting → setup_read bytes ≡ Ok setup
    → length (list_of (event.Heard peer bytes ∷ events)) ≡ length (list_of events)
heard-length peer bytes setup events waits reads =
    let player = player_of (calls_of addresses events).player in
    ap (λ (c : Calls). length (sessions_of c.sessions).list) (heard-calls peer bytes setup events waits reads)
    ∙ length-set peer (talk.Ts setup (control_for setup player) None) (list_of events)

-- ---- what is told
-- the first text of a CII session that opens after these events
abbrev state_text : List TvEvent → List ℕ
state_text events = full_text (state_of (calls_of addresses events).sessions)

-- it is told the state in full
told-opened : (peer : ℕ) (events : List TvEvent) → length (list_of events) < 256
    → told_to peer (event.Opened peer kind.Cii ∷ events) ≡ state_text events ∷ []
told-opened peer events room =
    let h = (calls_of addresses events).sessions in
    ap (λ (c : Calls). texts_of peer c.sessions) (opened-calls peer kind.Cii events room)
    ∙ ap (λ b. texts_of_lived (when b (λ _. Some (born kind.Cii (state_of h))) (life_of peer h)))
    (eq-eqb peer peer refl)

-- the first text of a TS session that opens after these events and is set up then
abbrev position_text : Setup → List TvEvent → List ℕ
position_text setup events = control_text (control_for setup (player_of (calls_of addresses events).player))

-- it is told a control timestamp
told-set : (peer : ℕ) (bytes : List ℕ) (setup : Setup) (events : List TvEvent) → length (list_of events) < 256
    → setup_read bytes ≡ Ok setup
    → told_to peer (event.Heard peer bytes ∷ event.Opened peer kind.Ts ∷ events) ≡ position_text setup events ∷ []
told-set peer bytes setup events room reads =
    let h = (calls_of addresses events).sessions in
    let player = player_of (calls_of addresses events).player in
    ap (λ (c : Calls). texts_of peer c.sessions)
    (heard-calls peer bytes setup (event.Opened peer kind.Ts ∷ events) (opened-talk peer kind.Ts events room) reads)
    ∙ ap (λ (c : Calls). texts_of peer (SetUp peer setup (player_of c.player) ∷ c.sessions))
    (opened-calls peer kind.Ts events room)
    ∙ ap (λ b. texts_of_lived (when b (option_map (living (set_life setup player)))
    (when b (λ _. Some (born kind.Ts (state_of h))) (life_of peer h)))) (eq-eqb peer peer refl)

-- ---- the lines
-- A line of a companion in the opening of so many companions, after so many lines of it: at true time 0 both clocks
-- show one second.
abbrev pub own_line : (companions count who : ℕ) → Verb → Numbered
own_line companions count who verb = record {
  number = heading companions + suc count;
  line = record { t = 0; w = 1000000000; who = who; l = 1000000000; verb = verb };
}

-- the first lines of a companion, one to five, after lines of which so many are counted
abbrev pub own_1 : (companions count who : ℕ) → List Numbered → List Numbered
own_1 companions count who lines = own_line companions count who (Opening kind.Cii) ∷ lines

abbrev pub own_2 : (companions count who : ℕ) → List Numbered → List Numbered
own_2 companions count who lines =
    own_line companions (suc count) who (Bring kind.Cii) ∷ own_1 companions count who lines

abbrev pub own_3 : (companions count who : ℕ) → List Numbered → List Numbered
own_3 companions count who lines =
    own_line companions (suc (suc count)) who (Opening kind.Ts) ∷ own_2 companions count who lines

abbrev pub own_4 : (companions count who : ℕ) → List Numbered → List Numbered
own_4 companions count who lines = own_line companions (suc (suc (suc count))) who Up ∷ own_3 companions count who lines

abbrev pub own_5 : (companions count who : ℕ) → List Numbered → List Numbered
own_5 companions count who lines =
    own_line companions (suc (suc (suc (suc count)))) who (Bring kind.Ts) ∷ own_4 companions count who lines

-- Companion `who` did nothing yet, and nothing came of it on its TS session.
pub record IsUnheard (who : ℕ) (header : Header) (lines : List Numbered) : Type 0 where
  pub own : history_of who header lines ≡ []
  pub received : received_from (ts_of who) (events_of header lines) ≡ []

-- the player refuses no text
played-text : (events : List TvEvent) (peer : ℕ) (text : Option (List ℕ))
    → played events (option_map (event.Heard peer) text) ≡ Ok tt
played-text events peer None = refl
played-text events peer (Some bytes) = refl

-- ---- the five lines
module _ (header : Header) (companions count who : ℕ) (lines : List Numbered) (first : 1 ≤ who)
    (room : length (list_of (events_of header lines)) + 2 ≤ 256) (unheard : IsUnheard who header lines)
    (reads : setup_read (setup_text (setup_of who header)) ≡ Ok (setup_of who header)) where
  -- what the companion has done after the first, the second and the third of them
  abbrev did_1 : History
  did_1 = Dialled session.Cii (cii_of who) ∷ []

  abbrev did_2 : History
  did_2 = Heard (cii_of who) (state_text (events_of header lines)) ∷ did_1

  abbrev did_3 : History
  did_3 = Wrote (ts_of who) (setup_text (setup_of who header)) ∷ Dialled session.Ts (ts_of who) ∷ did_2

  -- what has happened at the television after the first, the third and the fourth
  abbrev happened_1 : List TvEvent
  happened_1 = event.Opened (cii_of who) kind.Cii ∷ events_of header lines

  abbrev happened_3 : List TvEvent
  happened_3 = event.Opened (ts_of who) kind.Ts ∷ happened_1

  abbrev happened_4 : List TvEvent
  happened_4 = event.Heard (ts_of who) (setup_text (setup_of who header)) ∷ happened_3

  mine : (who == who) ≡ true
  mine = eq-eqb who who refl

  -- there is room for the first session, and for the second
  room-0 : length (list_of (events_of header lines)) < 256
  room-0 = omega (arith, room)

  length-1 : length (list_of happened_1) ≡ suc (length (list_of (events_of header lines)))
  length-1 = opened-length (cii_of who) kind.Cii (events_of header lines) room-0

  room-1 : length (list_of happened_1) < 256
  room-1 = omega (arith, room, length-1)

  -- the CII session was never open
  can-1 : can_talk who (events_of header lines) (history_of who header lines) (Opening kind.Cii) ≡ true
  can-1 = simp unheard.own

  did-1 : history_of who header (own_1 companions count who lines) ≡ did_1
  did-1 = simp (mine, unheard.own)

  -- the state comes on it
  next-1 : next_down who kind.Cii happened_1 did_1 ≡ Some (state_text (events_of header lines))
  next-1 = simp (told-opened (cii_of who) (events_of header lines) room-0)

  can-2 : can_talk who happened_1 (history_of who header (own_1 companions count who lines)) (Bring kind.Cii) ≡ true
  can-2 = simp (did-1, dialled-open (cii_of who) session.Cii [], next-1)

  did-2 : history_of who header (own_2 companions count who lines) ≡ did_2
  did-2 = simp (did-1, next-1) (simp mine)

  -- the TS session was never open
  can-3 : can_talk who happened_1 (history_of who header (own_2 companions count who lines)) (Opening kind.Ts) ≡ true
  can-3 = simp (did-2, dialled-was_apart (ts_of who) (cii_of who) (cii-ts who first) session.Cii [])

  did-3 : history_of who header (own_3 companions count who lines) ≡ did_3
  did-3 = simp did-2 (simp mine)

  -- its setup is under way
  next-3 : next_up who happened_3 did_3 ≡ Some (setup_text (setup_of who header))
  next-3 =
      simp (
        wrote-one (ts_of who) (setup_text (setup_of who header)) (Dialled session.Ts (ts_of who) ∷ did_2),
        unheard.received,
      )

  can-4 : can_talk who happened_3 (history_of who header (own_3 companions count who lines)) Up ≡ true
  can-4 = simp (did-3, dialled-open (ts_of who) session.Ts did_2, next-3)

  did-4 : history_of who header (own_4 companions count who lines) ≡ did_3
  did-4 = simp did-3 (simp mine)

  happened-4 : events_of header (own_4 companions count who lines) ≡ happened_4
  happened-4 = simp (did-3, next-3)

  -- the position comes on it
  next-4 : next_down who kind.Ts happened_4 did_3 ≡ Some (position_text (setup_of who header) happened_1)
  next-4 =
      simp (
        told-set (ts_of who) (setup_text (setup_of who header)) (setup_of who header) happened_1 room-1 reads,
        heard-apart (ts_of who) (cii_of who) (cii-ts who first) (state_text (events_of header lines)) did_1,
      )

  can-5 : can_talk who (events_of header (own_4 companions count who lines))
      (history_of who header (own_4 companions count who lines)) (Bring kind.Ts) ≡ true
  can-5 = simp (did-4, happened-4, dialled-open (ts_of who) session.Ts did_2, next-4)

  -- so each is carried out
  pub carried-1 : carried_out header lines (own_line companions count who (Opening kind.Cii)) ≡ Ok []
  carried-1 = simp can-1

  pub carried-2 : carried_out header (own_1 companions count who lines)
      (own_line companions (suc count) who (Bring kind.Cii)) ≡ Ok []
  carried-2 = simp can-2

  pub carried-3 : carried_out header (own_2 companions count who lines)
      (own_line companions (suc (suc count)) who (Opening kind.Ts)) ≡ Ok []
  carried-3 = simp can-3

  pub carried-4 : carried_out header (own_3 companions count who lines)
      (own_line companions (suc (suc (suc count))) who Up) ≡ Ok []
  carried-4 =
      let lines_3 = own_3 companions count who lines in
      simp (
        can-4,
        played-text (events_of header lines_3) (ts_of who)
            (next_up who (events_of header lines_3) (history_of who header lines_3)),
      )

  pub carried-5 : carried_out header (own_4 companions count who lines)
      (own_line companions (suc (suc (suc (suc count)))) who (Bring kind.Ts)) ≡ Ok []
  carried-5 = simp can-5

  -- ---- what the next companion finds
  -- two more sessions are open
  pub more-open : length (list_of (events_of header (own_5 companions count who lines)))
      ≡ suc (suc (length (list_of (events_of header lines))))
  more-open =
      simp (
        happened-4,
        heard-length (ts_of who) (setup_text (setup_of who header)) (setup_of who header) happened_3
            (opened-talk (ts_of who) kind.Ts happened_1 room-1) reads,
        opened-length (ts_of who) kind.Ts happened_1 room-1,
        length-1,
      )

  -- another companion still did nothing
  did-other : (other : ℕ) → who ≢ other
      → history_of other header (own_5 companions count who lines) ≡ history_of other header lines
  did-other other differs = simp (ne_eqb who other differs)

  -- and nothing came of it
  pub still-unheard : (other : ℕ) → 1 ≤ other → who ≢ other → IsUnheard other header lines
      → IsUnheard other header (own_5 companions count who lines)
  still-unheard other too differs before = record {
    own = did-other other differs ∙ before.own;
    received = ap (received_from (ts_of other)) happened-4
        ∙ received-apart (ts_of other) (ts_of who) (others-peer other who kind.Ts kind.Ts too first differs)
        (setup_text (setup_of who header)) happened_3
        ∙ before.received;
  }
