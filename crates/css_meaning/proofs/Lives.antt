-- What an event of the television does to the life of a session.
use Rattle.std.proofs.Common.{◌≡◌, ℕ, ◌+◌, ◌<◌, ◌≤◌, ◌⊎◌, inl, inr, refl, ap, sym, subst, ◌∙◌, arith, Bool, true, false}
use Rattle.std.proofs.Common.{cond, ◌==◌, List, [], ◌∷◌, ◌++◌, length, nat_lt, lt-ltb, ltb-true, ltb-false, eq-eqb}
use Rattle.std.specs.Prelude.{Option, Some, None, option_map, Result, Ok, Err, IfOk}
use Rattle.css_player.specs.Segments.{with_programme, with_timeline, commanded}
use Rattle.css_player.specs.Events.{Event as PlayerCall, player_of}
use Rattle.css_tsmsg.specs.Setups.{setup_of as setup_read}
use Rattle.css_sessions.specs.Offsets.{control_for}
use Rattle.css_sessions.specs.Kept.{Opened, SetUp, Closed, Kept, Rising, talk_of, set_up_in}
use Rattle.css_sessions.specs.Told.{Life, Unset, TsLife, Lived, born, set_life, grown_life, living, ended, life_of}
use Rattle.css_sessions.specs.Told.{state_of, window_of, sessions_of}
use Rattle.css_sessions.proofs.Telling.{kept, kept_of, is_kept}
use Rattle.css_tv.specs.Outcomes.{Outcome, outcome, outcome_at, by_player, programme_added, timeline_added, viewed}
use Rattle.css_tv.specs.Outcomes.{only, opened, by_setup, choice, windows_after, presented, by_presentation, heard}
use Rattle.css_tv.specs.Stages.{max_sessions}
use Rattle.css_tv.specs.States.{published_state}
use Rattle.css_tv.specs.declared.event.TvEvent.TheVariants as event
use Rattle.css_meaning.specs.Sessions.{addresses}
use Rattle.css_meaning.proofs.Names.{Player, PlayerFault, presentation_of, Presentation, TsFault, Setup, Kind, Session}
use Rattle.css_meaning.proofs.Names.{Calls, calls_of, with_outcome, TvEvent, TvFault, programme_controls}
use Rattle.css_meaning.proofs.Entries.{concerns}
use Rattle.css_meaning.proofs.Opening.{IsUnknown}
use Rattle.css_meaning.proofs.Staging.{AreBelow, IsStaged, IsGrown, IsSound, stage_by, event_grown}

-- what is published of a player that is shown is told to a life
abbrev pub grown_by : Player → Life → Life
grown_by now = grown_life (published_state addresses now) now

-- A session's life stays, and each setup has the control that it had; or what is shown now is published to it.
abbrev pub GoesOn : Player → Player → Option Lived → Option Lived → Type 0
GoesOn before now old new =
    ((new ≡ old) × ((u : Setup) → control_for u now ≡ control_for u before))
    ⊎ (new ≡ option_map (living (grown_by now)) old)

-- what is shown after events
abbrev pub shown_after : List TvEvent → Player
shown_after events = player_of (calls_of addresses events).player

-- the life of a peer's session after events
abbrev pub lived_after : ℕ → List TvEvent → Option Lived
lived_after peer events = life_of peer (calls_of addresses events).sessions

-- it goes on from events to more of them
abbrev pub LifeGoesOn : ℕ → List TvEvent → List TvEvent → Type 0
LifeGoesOn peer old new = GoesOn (shown_after old) (shown_after new) (lived_after peer old) (lived_after peer new)

-- the life stays, and so does what is shown
pub stays : (p : Player) (old new : Option Lived) → new ≡ old → GoesOn p p old new
stays p old new same = inl (same, λ u. refl)

-- ---- events of others
-- where a test fails, the second is taken
left : {A : Type 0} (b : Bool) (x y : A) → b ≡ false → cond b x y ≡ y
left true x y is = absurd (cc)
left false x y is = refl

module _ (peer : ℕ) (calls : Calls) (staged : IsStaged addresses calls) where
  -- what is shown before the event
  abbrev shown : Player
  shown = player_of calls.player

  -- what the sessions keep before it
  abbrev told : Kept
  told = sessions_of calls.sessions

  -- the session's life before it
  abbrev lived : Option Lived
  lived = life_of peer calls.sessions

  -- by an outcome the life goes on
  abbrev pub OutcomeGoesOn : Outcome → Type 0
  OutcomeGoesOn o = GoesOn shown o.player lived (life_of peer (o.called ++ calls.sessions))

  -- one more programme changes nothing
  programme_goes : (content_id : List ℕ) (r : Result Player PlayerFault) → with_programme content_id shown ≡ r
      → IfOk (by_player (programme_added content_id) r) OutcomeGoesOn
  unfolding control_for
  programme_goes content_id (Err fault) is = tt
  programme_goes content_id (Ok q) is =
      inl (refl, λ u. programme_controls u.stem u.selector content_id shown q is staged.stage.shown)

  -- one more timeline is published
  timeline_goes : (call : PlayerCall) (r : Result Player PlayerFault)
      → IfOk (by_player (timeline_added addresses call) r) OutcomeGoesOn
  timeline_goes call (Err fault) = tt
  timeline_goes call (Ok q) = inr refl

  -- so is what a viewer asked for
  viewer_goes : (call : PlayerCall) (r : Result Player PlayerFault)
      → IfOk (by_player (viewed addresses call) r) OutcomeGoesOn
  viewer_goes call (Err fault) = tt
  viewer_goes call (Ok q) = inr refl

  -- and another delay
  presented_goes : (p : ℕ) (q : Presentation) (delay : Option ℕ) → OutcomeGoesOn (presented addresses p q shown delay)
  presented_goes p q None = stays shown _ _ refl
  presented_goes p q (Some delay) = inr refl

  -- what is called for another peer leaves the life
  other_stays : (p : ℕ) (new : Option Lived) → (p == peer) ≡ false
      → GoesOn shown shown lived (cond (p == peer) new lived)
  other_stays p new other = stays shown lived (cond (p == peer) new lived) (left (p == peer) new lived other)

  -- the opening of another session
  opened_goes : (p : ℕ) (kind : Kind) (few : Bool) → (p == peer) ≡ false
      → OutcomeGoesOn (opened (Opened p kind) p few shown)
  opened_goes p kind true other = other_stays p (Some (born kind (state_of calls.sessions))) other
  opened_goes p kind false other = other_stays p (option_map ended lived) other

  -- its end
  closed_goes : (p : ℕ) → (p == peer) ≡ false → OutcomeGoesOn (only (Closed p) shown)
  closed_goes p other = other_stays p (option_map ended lived) other

  -- its setup
  setup_goes : (p : ℕ) (r : Result Setup TsFault) → (p == peer) ≡ false → OutcomeGoesOn (by_setup p shown r)
  setup_goes p (Err fault) other = closed_goes p other
  setup_goes p (Ok u) other = other_stays p (option_map (living (set_life u shown)) lived) other

  -- its presentation
  presentation_goes : (p : ℕ) (r : Result Presentation TsFault) → (p == peer) ≡ false
      → OutcomeGoesOn (by_presentation addresses p shown told r)
  presentation_goes p (Err fault) other = closed_goes p other
  presentation_goes p (Ok q) other = presented_goes p q (choice shown.segment (windows_after p q shown told))

  -- and so any text of it
  text_goes : (p : ℕ) (bytes : List ℕ) (set_up : Option Bool) → (p == peer) ≡ false
      → OutcomeGoesOn (heard addresses p bytes shown told set_up)
  text_goes p bytes None other = closed_goes p other
  text_goes p bytes (Some false) other = setup_goes p (setup_read bytes) other
  text_goes p bytes (Some true) other = presentation_goes p (presentation_of bytes) other

  -- by an event that isn't of the session its life goes on
  outcome_goes : (e : TvEvent) → concerns peer e ≡ false → IfOk (outcome addresses e shown told) OutcomeGoesOn
  outcome_goes (event.Programme content_id) other = programme_goes content_id (with_programme content_id shown) refl
  outcome_goes (event.AddTimeline n selector rate base) other =
      timeline_goes _ (with_timeline n selector rate base shown)
  outcome_goes (event.Viewer command reading) other = viewer_goes _ (commanded command reading shown)
  outcome_goes (event.Opened p kind) other = opened_goes p kind (nat_lt (length told.list) max_sessions) other
  outcome_goes (event.Heard p bytes) other = text_goes p bytes (set_up_in (talk_of p told.list)) other
  outcome_goes (event.Closed p) other = closed_goes p other

  -- with what is shown after it
  goes_by : (r : Result Outcome TvFault) → IfOk r (IsGrown calls) → IfOk r OutcomeGoesOn
      → let after = with_outcome r calls in GoesOn shown (player_of after.player) lived (life_of peer after.sessions)
  goes_by (Err fault) grown goes = stays shown lived lived refl
  goes_by (Ok o) grown goes = rw grown.player.same at goes

-- A session's life goes on by an event that isn't of that session.
pub goes_on : (peer : ℕ) (events : List TvEvent) (e : TvEvent) → IsStaged addresses (calls_of addresses events)
    → IsSound e (calls_of addresses events).sessions → concerns peer e ≡ false → LifeGoesOn peer events (e ∷ events)
goes_on peer events e staged sound other =
    let calls = calls_of addresses events in
    goes_by peer calls staged (outcome_at e (stage_by addresses calls)) (event_grown addresses calls staged e sound)
    (outcome_goes peer calls staged e other)

-- ---- opening
-- what is none whatever a test says is none
none_else : {T : Type 0} (b : Bool) (x : T) (o : Option T) → cond b (Some x) o ≡ None → o ≡ None
none_else true x o is = absurd (cc)
none_else false x o is = is

-- sessions in rising order of peers below a bound are few
few_below : (ss : List Session) (n bound : ℕ) → Rising n ss → n ≤ bound
    → ((peer : ℕ) → bound ≤ peer → talk_of peer ss ≡ None) → length ss + n ≤ bound
few_below [] n bound rising low none = omega arith
few_below (s ∷ ss) n bound rising low none =
    go (nat_lt s.peer bound) refl (λ inside. few_below ss (s.peer + 1) bound rising.1 inside (λ peer above.
    none_else (s.peer == peer) s.talk (talk_of peer ss) (none peer above)))
  where
    go : (b : Bool) → nat_lt s.peer bound ≡ b → (s.peer + 1 ≤ bound → length ss + (s.peer + 1) ≤ bound)
        → length (s ∷ ss) + n ≤ bound
    go true is rest =
        let inside : s.peer < bound = ltb-true s.peer bound is in
        omega (arith, rest (omega (arith, inside)), rising.0)
    go false is rest =
        let gone : cond (s.peer == s.peer) (Some s.talk) (talk_of s.peer ss) ≡ None =
        none s.peer (ltb-false s.peer bound is) in
        absurd (let some : Some s.talk ≡ None =
        ap (λ b. cond b (Some s.talk) (talk_of s.peer ss)) (sym (eq-eqb s.peer s.peer refl)) ∙ gone in cc)

-- where no peer above a small one is known, there is room for one more session
room : (calls : Calls) (bound : ℕ) → IsStaged addresses calls → bound ≤ 32
    → ((peer : ℕ) → bound < peer → IsUnknown peer calls.sessions)
    → nat_lt (length (sessions_of calls.sessions).list) max_sessions ≡ true
room calls bound staged small unknown =
    let list = (sessions_of calls.sessions).list in
    let kept = is_kept calls.sessions staged.sessions.lawful in
    let few = few_below list 0 (bound + 1) kept.rising (omega arith) (λ peer above.
    (unknown peer (omega (arith, above))).talk) in
    lt-ltb (length list) max_sessions (omega (arith, few, small))

-- ---- events of the session itself
-- a session that opens is born with the state of what is shown, which stays
pub record OpensAs (peer : ℕ) (kind : Kind) (events : List TvEvent) : Type 0 where
  pub life : lived_after peer (event.Opened peer kind ∷ events)
      ≡ Some (born kind (published_state addresses (shown_after events)))
  pub shown : shown_after (event.Opened peer kind ∷ events) ≡ shown_after events

-- so does one where only few sessions are known
pub opens_as : (peer : ℕ) (kind : Kind) (events : List TvEvent) (bound : ℕ)
    → IsStaged addresses (calls_of addresses events) → bound ≤ 32 → AreBelow bound events → OpensAs peer kind events
opens_as peer kind events bound staged small below =
    let calls = calls_of addresses events in
    let player = player_of calls.player in
    let by : (few : Bool) → Result Outcome TvFault = λ few. Ok (opened (Opened peer kind) peer few player) in
    let few = room calls bound staged small below in
    let new = Some (born kind (state_of calls.sessions)) in
    let state = sym (is_kept calls.sessions staged.sessions.lawful).state ∙ staged.stage.current in
    record {
      life = ap (λ few. life_of peer (with_outcome (by few) calls).sessions) few
          ∙ ap (λ b. cond b new (life_of peer calls.sessions)) (eq-eqb peer peer refl)
          ∙ ap (λ s. Some (born kind s)) state;
      shown = ap (λ few. player_of (with_outcome (by few) calls).player) few;
    }

-- a session that is closed is over, and what is shown stays
pub closes_as : (peer : ℕ) (events : List TvEvent)
    → lived_after peer (event.Closed peer ∷ events) ≡ option_map ended (lived_after peer events)
closes_as peer events =
    let old = lived_after peer events in
    ap (λ b. cond b (option_map ended old) old) (eq-eqb peer peer refl)

-- ---- texts of the session
-- an open session of CSS-TS has this life
abbrev pub IsOpenAs : ℕ → Life → List TvEvent → Type 0
IsOpenAs peer life events = lived_after peer events ≡ Some (record { life = life; over = false })

-- and this talk
talk_as : (peer : ℕ) (life : Life) (events : List TvEvent) → IsStaged addresses (calls_of addresses events)
    → IsOpenAs peer life events → talk_of peer (sessions_of (calls_of addresses events).sessions).list
    ≡ Some (kept_of (window_of peer (calls_of addresses events).sessions) life)
talk_as peer life events staged is =
    let h = (calls_of addresses events).sessions in
    (is_kept h staged.sessions.lawful).talks peer ∙ ap (kept (window_of peer h)) is

-- What the setup of a session makes of it, and what is shown stays.
pub record SetsUp (peer : ℕ) (setup : Setup) (bytes : List ℕ) (events : List TvEvent) : Type 0 where
  pub life : IsOpenAs peer (TsLife setup (shown_after events) []) (event.Heard peer bytes ∷ events)
  pub shown : shown_after (event.Heard peer bytes ∷ events) ≡ shown_after events

-- a setup that comes first does
pub sets_up : (peer : ℕ) (setup : Setup) (bytes : List ℕ) (events : List TvEvent)
    → IsStaged addresses (calls_of addresses events) → IsOpenAs peer Unset events → setup_read bytes ≡ Ok setup
    → SetsUp peer setup bytes events
sets_up peer setup bytes events staged is reads =
    let calls = calls_of addresses events in
    let player = player_of calls.player in
    let k = sessions_of calls.sessions in
    let by : Option Bool → Result Outcome TvFault = λ set_up. Ok (heard addresses peer bytes player k set_up) in
    let waits : set_up_in (talk_of peer k.list) ≡ Some false = ap set_up_in (talk_as peer Unset events staged is) in
    let made : by (set_up_in (talk_of peer k.list)) ≡ Ok (only (SetUp peer setup player) player) =
    ap by waits ∙ ap (λ r. Ok (by_setup peer player r)) reads in
    let old = life_of peer calls.sessions in
    let new = option_map (living (set_life setup player)) old in
    record {
      life = ap (λ r. life_of peer (with_outcome r calls).sessions) made
          ∙ ap (λ b. cond b new old) (eq-eqb peer peer refl) ∙ ap (option_map (living (set_life setup player))) is;
      shown = ap (λ r. player_of (with_outcome r calls).player) made;
    }

-- A presentation of a session that is set up lets its life go on.
pub presents : (peer : ℕ) (u : Setup) (p : Player) (ps : List Player) (bytes : List ℕ) (q : Presentation)
    (events : List TvEvent) → IsStaged addresses (calls_of addresses events) → IsOpenAs peer (TsLife u p ps) events
    → presentation_of bytes ≡ Ok q → LifeGoesOn peer events (event.Heard peer bytes ∷ events)
presents peer u p ps bytes q events staged is reads =
    let calls = calls_of addresses events in
    let player = player_of calls.player in
    let k = sessions_of calls.sessions in
    let by : Option Bool → Result Outcome TvFault = λ set_up. Ok (heard addresses peer bytes player k set_up) in
    let set : set_up_in (talk_of peer k.list) ≡ Some true =
    ap set_up_in (talk_as peer (TsLife u p ps) events staged is) in
    let delay = choice player.segment (windows_after peer q player k) in
    let made : by (set_up_in (talk_of peer k.list)) ≡ Ok (presented addresses peer q player delay) =
    ap by set ∙ ap (λ r. Ok (by_presentation addresses peer player k r)) reads in
    goes_by peer calls staged (by (set_up_in (talk_of peer k.list)))
    (event_grown addresses calls staged (event.Heard peer bytes) tt)
    (subst (λ r. IfOk r (OutcomeGoesOn peer calls staged)) (sym made) (presented_goes peer calls staged peer q delay))
