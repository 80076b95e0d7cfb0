-- The television stands for the events of accepted lines, and all that it tells can be told.
use Rattle.std.proofs.Common.{◌≡◌, ℕ, zero, suc, ◌*◌, ◌<◌, ◌≤◌, refl, ap, arith, Bool, true, false, cond, List, [], ◌∷◌}
use Rattle.std.proofs.Common.{◌++◌, length, option_to_list, option_map}
use Rattle.css_num.specs.declared.protocol.Kind.TheVariants as kind
use Rattle.std.specs.Prelude.{⊤, All, Option, Some, None, IfSome, Result, Ok, Err, IfOk, pos, nat_lt, ◌==◌, codes}
use Rattle.std.specs.Str.{IsUtf8}
use Rattle.std.specs.Ordering.{int_eq}
use Rattle.std.proofs.lemmas.List.Elements.{All-nil, All-cons}
use Rattle.css_player.specs.Segments.{idle, with_programme, with_timeline, commanded, with_delay}
use Rattle.css_player.specs.Events.{ProgrammeAdded, TimelineAdded, Commanded, Delayed, player_of}
use Rattle.css_player.specs.Events.{StandsFor as PlayerStandsFor}
use Rattle.css_player.proofs.Standing.{stands_more as player_more}
use Rattle.css_tsmsg.specs.Setups.{setup_of as setup_read}
use Rattle.css_window.specs.Demand.{Demand}
use Rattle.css_window.specs.Least.{or_else, least_below, fits_all, least_fit}
use Rattle.css_sessions.specs.declared.session.Talk.{Talk}
use Rattle.css_sessions.specs.declared.session.Talk.TheVariants as talk
use Rattle.css_sessions.specs.Kept.{Event as SessionsCall, Opened, SetUp, Closed, Presented, Dropped, Kept, talk_of}
use Rattle.css_sessions.specs.Kept.{set_up_in, step_of}
use Rattle.css_sessions.specs.Told.{StandsFor as SessionsStandFor, IsAccepted, IsTellable, IsControlled, life_of}
use Rattle.css_sessions.specs.Told.{sessions_of}
use Rattle.css_sessions.proofs.Telling.{stands_more as sessions_more}
use Rattle.css_tv.specs.Stages.{Stage, IsStage, max_sessions}
use Rattle.css_tv.specs.Outcomes.{Outcome, outcome, outcome_at, stage_after, kept_after, by_player, published}
use Rattle.css_tv.specs.Outcomes.{programme_added, timeline_added, viewed, only, hung_up, opened, by_setup, other_than}
use Rattle.css_tv.specs.Outcomes.{choice, windows_after, presented, by_presentation, heard}
use Rattle.css_tv.specs.declared.event.TvEvent.TheVariants as event
use Rattle.css_tv.proofs.HostTexts.{wc_utf8, ts_utf8}
use Rattle.css_schedule.specs.declared.line.Verb.TheVariants as verb
use Rattle.css_meaning.specs.Sessions.{addresses, peer_of, was_opened, next_up}
use Rattle.css_meaning.specs.Happened.{event_by}
use Rattle.css_meaning.specs.Verdicts.{can_talk}
use Rattle.css_meaning.proofs.Names.{is_own, History, LIMIT, IsTickRate, Player, Segment, Track, max_delay, Command}
use Rattle.css_meaning.proofs.Names.{PlayerFault, presentation_of, Presentation, TsFault, Setup, Kind, Session, Calls}
use Rattle.css_meaning.proofs.Names.{calls_of, with_outcome, TvEvent, TvFault, Addresses, keeps, Verb, IsVerb, not-true}
use Rattle.css_meaning.proofs.Opening.{IsUnknown, IsNeverOpened}
use Rattle.css_meaning.proofs.Playing.{IsPlayable, programme_playable, timeline_playable, command_playable}
use Rattle.css_meaning.proofs.Playing.{delay_playable, control_in_range, state_readable}

-- what is shown and told after calls
abbrev pub stage_by : Addresses → Calls → Stage
stage_by a calls = record { addresses = a; player = player_of calls.player; sessions = sessions_of calls.sessions }

-- The player and the sessions stand for their calls, what always holds of a television holds, and the player's numbers
-- are in range.
pub record IsStaged (a : Addresses) (calls : Calls) : Type 0 where
  pub player : PlayerStandsFor (player_of calls.player) calls.player
  pub sessions : SessionsStandFor (sessions_of calls.sessions) calls.sessions
  pub stage : IsStage (stage_by a calls)
  pub playable : IsPlayable (player_of calls.player)

-- ---- one call of the sessions
-- the sessions stand for one more call
one_more : (call : SessionsCall) (h : List SessionsCall) → SessionsStandFor (sessions_of h) h → IsAccepted call h
    → IsTellable call h → SessionsStandFor (sessions_of (call ∷ h)) (call ∷ h)
one_more call h stands accepted tellable =
    sessions_more call (sessions_of h) (sessions_of (call ∷ h)) h stands accepted tellable refl

-- each session is told a control in range
talk_controlled : (p : Player) (t : Talk) → IsPlayable p → IsControlled p t
talk_controlled p talk.Cii playable = tt
talk_controlled p talk.Waiting playable = tt
talk_controlled p (talk.Ts setup sent window) playable = control_in_range setup p playable

-- so all sessions are
all_controlled : (p : Player) (ss : List Session) → IsPlayable p → All (λ s. IsControlled p s.talk) ss
all_controlled p [] playable = All-nil (λ (s : Session). IsControlled p s.talk)
all_controlled p (s ∷ ss) playable =
    All-cons (λ (s : Session). IsControlled p s.talk) s ss (talk_controlled p s.talk playable)
    (all_controlled p ss playable)

-- what a playable player shows can be published
published_more : (a : Addresses) (p : Player) (h : List SessionsCall) → IsUtf8 a.wc_url → IsUtf8 a.ts_url → IsPlayable p
    → SessionsStandFor (sessions_of h) h → SessionsStandFor (sessions_of (published a p ∷ h)) (published a p ∷ h)
published_more a p h wc ts playable stands =
    one_more (published a p) h stands tt
    (state_readable a p wc ts playable, all_controlled p (sessions_of h).list playable)

-- ---- an outcome
-- The player and the sessions stand for their calls with those of an outcome, and its player is playable.
pub record IsGrown (calls : Calls) (o : Outcome) : Type 0 where
  pub player : PlayerStandsFor o.player (o.asked ++ calls.player)
  pub sessions : SessionsStandFor (sessions_of (o.called ++ calls.sessions)) (o.called ++ calls.sessions)
  pub playable : IsPlayable o.player

-- ---- delays
-- a least number is below the bound
below : (p : ℕ → Bool) (n d : ℕ) → least_below p n ≡ Some d → d < n
unfolding least_below
below p zero d is = absurd (cc)
below p (suc n) d is = go (least_below p n) (p n) (λ e. below p n d e) is where
  go : (o : Option ℕ) (b : Bool) → (o ≡ Some d → d < n) → or_else o (cond b (Some n) None) ≡ Some d → d < suc n
  go None true before is = let same : n ≡ d = cc in omega arith
  go None false before is = absurd (cc)
  go (Some e) b before is = let less = before is in omega arith

-- so is a least delay that fits
fit_small : (ws : List Demand) (d : ℕ) → least_fit max_delay ws ≡ Some d → d ≤ max_delay
unfolding least_fit
fit_small ws d is = let less = below (λ delay. fits_all delay ws) (suc max_delay) d is in omega arith

-- so it is where it differs from the present one
other_small : (present : ℕ) (o : Option ℕ) (d : ℕ) → ((e : ℕ) → o ≡ Some e → e ≤ max_delay)
    → other_than present o ≡ Some d → d ≤ max_delay
other_small present None d small is = absurd (cc)
other_small present (Some e) d small is = go (e == present) is where
  go : (b : Bool) → cond b None (Some e) ≡ Some d → d ≤ max_delay
  go true is = absurd (cc)
  go false is = small d is

-- so the delay that windows ask for is small
choice_small : (o : Option Segment) (ws : List Demand) (d : ℕ) → choice o ws ≡ Some d → d ≤ max_delay
choice_small None ws d is = absurd (cc)
choice_small (Some s) ws d is = go (int_eq s.speed (pos 1)) is where
  go : (b : Bool) → cond b (other_than s.delay (least_fit max_delay ws)) None ≡ Some d → d ≤ max_delay
  go true is = other_small s.delay (least_fit max_delay ws) d (fit_small ws) is
  go false is = absurd (cc)

-- ---- one event
-- what is kept after calls more
kept_all : (calls h : List SessionsCall) → kept_after calls (sessions_of h) ≡ sessions_of (calls ++ h)
kept_all [] h = refl
kept_all (call ∷ calls) h = ap (λ k. (step_of call k).kept) (kept_all calls h)

-- the parts of an event are UTF-8 and in range, and a peer that opens is new
abbrev pub IsSound : TvEvent → List SessionsCall → Type 0
IsSound (event.Programme content_id) h = IsUtf8 content_id
IsSound (event.AddTimeline n selector rate base) h = IsUtf8 selector × IsTickRate rate
IsSound (event.Viewer command reading) h = reading < LIMIT
IsSound (event.Opened peer kind) h = life_of peer h ≡ None
IsSound (event.Heard peer bytes) h = ⊤
IsSound (event.Closed peer) h = ⊤

module _ (a : Addresses) (calls : Calls) (staged : IsStaged a calls) where
  -- what is shown
  abbrev shown : Player
  shown = player_of calls.player

  -- what the sessions keep
  abbrev told : Kept
  told = sessions_of calls.sessions

  -- the television that shows and keeps this
  abbrev staging_of : Player → Kept → Stage
  staging_of p k = record { addresses = a; player = p; sessions = k }

  -- one more programme
  programme_grown : (content_id : List ℕ) (r : Result Player PlayerFault) → with_programme content_id shown ≡ r
      → IsUtf8 content_id → IfOk (by_player (programme_added content_id) r) (IsGrown calls)
  programme_grown content_id (Err fault) is utf8 = tt
  programme_grown content_id (Ok q) is utf8 = record {
    player = player_more shown q (ProgrammeAdded content_id) calls.player tt is staged.player;
    sessions = staged.sessions;
    playable = programme_playable content_id shown q is utf8 staged.playable;
  }

  -- one more timeline is published
  timeline_grown : (n : ℕ) (selector : List ℕ) (rate : _) (base : _) (r : Result Player PlayerFault)
      → with_timeline n selector rate base shown ≡ r → IsUtf8 selector → IsTickRate rate
      → IfOk (by_player (timeline_added a (TimelineAdded n selector rate base)) r) (IsGrown calls)
  timeline_grown n selector rate base (Err fault) is utf8 ranged = tt
  timeline_grown n selector rate base (Ok q) is utf8 ranged =
      let track : Track = record { selector = selector; rate = rate; base = base } in
      let playable = timeline_playable n track shown q is utf8 ranged staged.playable in
      record {
        player = player_more shown q (TimelineAdded n selector rate base) calls.player tt is staged.player;
        sessions = published_more a q calls.sessions staged.stage.wc_utf8 staged.stage.ts_utf8 playable staged.sessions;
        playable = playable;
      }

  -- so is what a viewer asked for, and the windows are dropped
  viewer_grown : (c : Command) (reading : ℕ) (r : Result Player PlayerFault) → commanded c reading shown ≡ r
      → reading < LIMIT → IfOk (by_player (viewed a (Commanded c reading)) r) (IsGrown calls)
  viewer_grown c reading (Err fault) is early = tt
  viewer_grown c reading (Ok q) is early =
      let playable = command_playable c reading shown q is early staged.playable in
      let seen = published_more a q calls.sessions staged.stage.wc_utf8 staged.stage.ts_utf8 playable staged.sessions in
      record {
        player = player_more shown q (Commanded c reading) calls.player early is staged.player;
        sessions = one_more Dropped (published a q ∷ calls.sessions) seen tt tt;
        playable = playable;
      }

  -- a call of the sessions alone
  only_grown : (call : SessionsCall) → IsAccepted call calls.sessions → IsTellable call calls.sessions
      → IsGrown calls (only call shown)
  only_grown call accepted tellable = record {
    player = staged.player;
    sessions = one_more call calls.sessions staged.sessions accepted tellable;
    playable = staged.playable;
  }

  -- a session that is hung up
  hung_up_grown : (peer : ℕ) → IsGrown calls (hung_up peer shown)
  hung_up_grown peer = record {
    player = staged.player;
    sessions = one_more (Closed peer) calls.sessions staged.sessions tt tt;
    playable = staged.playable;
  }

  -- the opening of a new peer's session
  opened_grown : (peer : ℕ) (kind : Kind) (few : Bool) → life_of peer calls.sessions ≡ None
      → IsGrown calls (opened (Opened peer kind) peer few shown)
  opened_grown peer kind true fresh = only_grown (Opened peer kind) fresh tt
  opened_grown peer kind false fresh = hung_up_grown peer

  -- a setup comes to a session that waits for it
  setup_grown : (peer : ℕ) (r : Result Setup TsFault) → talk_of peer told.list ≡ Some talk.Waiting
      → IsGrown calls (by_setup peer shown r)
  setup_grown peer (Err fault) waits = hung_up_grown peer
  setup_grown peer (Ok u) waits = only_grown (SetUp peer u shown) waits (control_in_range u shown staged.playable)

  -- a presentation, with the delay that it asks for
  presented_grown : (peer : ℕ) (q : Presentation) (delay : Option ℕ) → ((d : ℕ) → delay ≡ Some d → d ≤ max_delay)
      → IsGrown calls (presented a peer q shown delay)
  presented_grown peer q None small = only_grown (Presented peer q shown) tt tt
  presented_grown peer q (Some delay) small =
      let next = with_delay delay shown in
      let playable = delay_playable delay shown (small delay refl) staged.playable in
      let wc = staged.stage.wc_utf8 in
      let seen = published_more a next calls.sessions wc staged.stage.ts_utf8 playable staged.sessions in
      record {
        player = player_more shown next (Delayed delay) calls.player (small delay refl) refl staged.player;
        sessions = one_more (Presented peer q shown) (published a next ∷ calls.sessions) seen tt tt;
        playable = playable;
      }

  -- a presentation, as its text is read
  presentation_grown : (peer : ℕ) (r : Result Presentation TsFault)
      → IsGrown calls (by_presentation a peer shown told r)
  presentation_grown peer (Err fault) = hung_up_grown peer
  presentation_grown peer (Ok q) =
      let ws = windows_after peer q shown told in
      presented_grown peer q (choice shown.segment ws) (choice_small shown.segment ws)

  -- a text of whatever session
  text_grown : (peer : ℕ) (bytes : List ℕ) (t : Option Talk) → talk_of peer told.list ≡ t
      → IsGrown calls (heard a peer bytes shown told (set_up_in t))
  text_grown peer bytes None is = hung_up_grown peer
  text_grown peer bytes (Some talk.Cii) is = hung_up_grown peer
  text_grown peer bytes (Some talk.Waiting) is = setup_grown peer (setup_read bytes) is
  text_grown peer bytes (Some (talk.Ts setup sent window)) is = presentation_grown peer (presentation_of bytes)

  -- such an event has an outcome that can be told
  pub event_grown : (e : TvEvent) → IsSound e calls.sessions → IfOk (outcome a e shown told) (IsGrown calls)
  event_grown (event.Programme content_id) sound =
      programme_grown content_id (with_programme content_id shown) refl sound
  event_grown (event.AddTimeline n selector rate base) sound =
      timeline_grown n selector rate base (with_timeline n selector rate base shown) refl sound.0 sound.1
  event_grown (event.Viewer command reading) sound =
      viewer_grown command reading (commanded command reading shown) refl sound
  event_grown (event.Opened peer kind) sound = opened_grown peer kind (nat_lt (length told.list) max_sessions) sound
  event_grown (event.Heard peer bytes) sound = text_grown peer bytes (talk_of peer told.list) refl
  event_grown (event.Closed peer) sound = only_grown (Closed peer) tt tt

  -- so the television is staged after it
  staged_after : (e : TvEvent) (r : Result Outcome TvFault) → outcome_at e (stage_by a calls) ≡ r
      → IfOk r (IsGrown calls) → IsStaged a (with_outcome r calls)
  staged_after e (Err fault) is grown = staged
  staged_after e (Ok o) is grown =
      let old = stage_by a calls in
      let same : o.player ≡ player_of (o.asked ++ calls.player) = grown.player.same in
      let kept : IsStage (stage_after o old) = keeps e old o is staged.stage in
      record {
        player = rw same at grown.player;
        sessions = grown.sessions;
        stage = rw same at (rw (kept_all o.called calls.sessions) at kept);
        playable = rw same at grown.playable;
      }

-- An event whose parts are in range leaves the television staged.
pub staged_event : (a : Addresses) (events : List TvEvent) (e : TvEvent) → IsStaged a (calls_of a events)
    → IsSound e (calls_of a events).sessions → IsStaged a (calls_of a (e ∷ events))
staged_event a events e staged sound =
    let calls = calls_of a events in
    staged_after a calls staged e (outcome_at e (stage_by a calls)) refl (event_grown a calls staged e sound)

-- ---- the start
-- the television is staged before all events
pub staged_start : (a : Addresses) → IsUtf8 a.wc_url → IsUtf8 a.ts_url → IsStaged a (calls_of a [])
staged_start a wc ts =
    let playable : IsPlayable idle = record { programmes = tt; segment = tt } in
    record {
      player = record { lawful = tt; same = refl };
      sessions = published_more a idle [] wc ts playable (record { lawful = tt; same = refl; tellable = tt });
      stage = record { wc_utf8 = wc; ts_utf8 = ts; current = refl; few = omega arith; shown = tt };
      playable = playable;
    }

-- the host of a schedule's television is UTF-8, and so are its addresses
host_utf8 : IsUtf8 (codes "127.0.0.1")
unfolding lib.Utf8.encode
host_utf8 = (codes "127.0.0.1", (refl, refl))

-- where its wall clock is asked
pub addresses_wc : IsUtf8 addresses.wc_url
addresses_wc = wc_utf8 (codes "127.0.0.1") 6677 (omega arith) host_utf8

-- and where its sessions are dialled
pub addresses_ts : IsUtf8 addresses.ts_url
addresses_ts = ts_utf8 (codes "127.0.0.1") 6677 (omega arith) host_utf8

-- ---- all lines
-- the television is staged, and knows nothing of what companion `who` never opened
pub record IsStaging (who : ℕ) (events : List TvEvent) (own : History) : Type 0 where
  pub staged : IsStaged addresses (calls_of addresses events)
  pub unknown : (k : Kind) → IsNeverOpened who k events own

-- the peers above this one are unknown
abbrev pub AreBelow : ℕ → List TvEvent → Type 0
AreBelow bound events = (peer : ℕ) → bound < peer → IsUnknown peer (calls_of addresses events).sessions

-- the television is staged, and knows nothing of what any companion never opened
pub record AreStaging (count : ℕ) (events : List TvEvent) (own : ℕ → History) : Type 0 where
  pub staged : IsStaged addresses (calls_of addresses events)
  pub unknown : (who : ℕ) → 1 ≤ who → (k : Kind) → IsNeverOpened who k events (own who)
  pub below : AreBelow (2 * count) events

-- so it is of one companion
pub staging_of_one : (count who : ℕ) (events : List TvEvent) (own : ℕ → History) → 1 ≤ who
    → AreStaging count events own → IsStaging who events (own who)
staging_of_one count who events own first all = record { staged = all.staged; unknown = all.unknown who first }

-- whatever text comes, its event is sound
text_sound : (peer : ℕ) (text : Option (List ℕ)) (h : List SessionsCall)
    → IfSome (option_map (event.Heard peer) text) (λ e. IsSound e h)
text_sound peer text h = grind arith

-- the event of a verb of companion `who`, if there is one, is sound
pub sound_by : (who : ℕ) (v : Verb) (events : List TvEvent) (own : History) → IsVerb v
    → can_talk who events own v ≡ true → (is_own v ≡ true → (k : Kind) → IsNeverOpened who k events own)
    → IfSome (event_by who events own v) (λ e. IsSound e (calls_of addresses events).sessions)
sound_by who (verb.Programme content_id) events own range can unknown = range.utf8
sound_by who (verb.Timeline n selector rate base) events own range can unknown = (range.selector.utf8, range.rate)
sound_by who (verb.Viewer reading command) events own range can unknown = range.reading
sound_by who (verb.Opening k) events own range can unknown =
    (unknown refl k (not-true (was_opened (peer_of who k) own) can)).life
sound_by who verb.Up events own range can unknown =
    text_sound (peer_of who kind.Ts) (next_up who events own) (calls_of addresses events).sessions
sound_by who _ events own range can unknown = tt

-- so it leaves the television staged
pub staged_by : (o : Option TvEvent) (events : List TvEvent) → IsStaged addresses (calls_of addresses events)
    → IfSome o (λ e. IsSound e (calls_of addresses events).sessions)
    → IsStaged addresses (calls_of addresses (option_to_list o ++ events))
staged_by None events staged sound = staged
staged_by (Some e) events staged sound = staged_event addresses events e staged sound
