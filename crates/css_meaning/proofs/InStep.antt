-- Where all has come to a companion, it assigns the position that the television published.
use Rattle.std.proofs.Common.{◌≡◌, ◌≢◌, ℕ, zero, ◌-◌, ◌<◌, ◌≤◌, refl, ap, sym, subst, ◌∙◌, arith, Bool, true, false}
use Rattle.std.proofs.Common.{List, [], ◌∷◌, length, take, drop, length-take, ℤ, pos, ◌≤ℤ◌, Option, Some, None, IfSome}
use Rattle.std.proofs.Common.{Result, Ok, bytes_eq, option_and_then}
use Rattle.css_player.specs.Segments.{present, track_of}
use Rattle.css_cii.specs.States.{empty}
use Rattle.css_sessions.specs.Offsets.{control_for}
use Rattle.css_sessions.specs.ReadBack.{cii_states, ts_controls, ReadsAsStates, ReadsAsControls, AreReadBack, IsCurrent}
use Rattle.css_sessions.specs.Told.{Life, CiiLife, TsLife, latest as latest_of, state_of as state_kept}
use Rattle.css_sessions.proofs.Telling.{is_kept}
use Rattle.css_tv.specs.States.{published_state, timelines_of}
use Rattle.css_companion.specs.Meanings.{state_of, control_by, is_closed, assigned_after}
use Rattle.css_companion.specs.Published.{latest}
use Rattle.css_companion.specs.TimelineRates.{rate_of}
use Rattle.css_meaning.specs.Arrived.{states_of_lived, HasAllCome, IsInStep, IsShownAt, published_tick}
use Rattle.css_meaning.specs.Sessions.{addresses, setup_of, is_open, heard_from, received_from, told_to, in_flight}
use Rattle.css_meaning.specs.Happened.{Numbered, events_of, history_of}
use Rattle.css_meaning.specs.Verdicts.{IsDeclared, assigned_at}
use Rattle.css_meaning.specs.Accepted.{AreAccepted}
use Rattle.css_meaning.proofs.Names.{History, Control, Available, Unavailable, Timeline, Player, Programme, Segment}
use Rattle.css_meaning.proofs.Names.{Track, IsSegment, State, TsFault, Setup, calls_of, TvEvent, Addresses, timing_of}
use Rattle.css_meaning.proofs.Names.{assigned_by, told_is_published, Header}
use Rattle.css_meaning.proofs.Peers.{cii_of, ts_of}
use Rattle.css_meaning.proofs.Playing.{IsPlayable, IsPlayableProgramme, IsPlayableTrack, present_playable, all-find}
use Rattle.css_meaning.proofs.Growing.{controls_of_lived}
use Rattle.css_meaning.proofs.Lives.{shown_after, lived_after}
use Rattle.css_meaning.proofs.Talking.{lived_as, IsLifeOf, Shows, cii_live, ts_live}
use Rattle.css_meaning.proofs.Telling.{ReadsAs, TellsAfter, as_many, come}
use Rattle.css_meaning.proofs.InOrder.{IsInOrder, in_order, newest, states_after, controls_after, back, states_said}
use Rattle.css_meaning.proofs.InOrder.{controls_said}
use Rattle.css_meaning.proofs.Rated.{same_tick, shown_at}

-- ---- what is in flight
-- where no text is in flight, as many came as were sent
none_flies : (sent received : List (List ℕ)) → in_flight sent received ≡ [] → length sent ≤ length received
none_flies sent received none =
    let many = length-take (length sent - length received) sent in
    let zero : length (take (length sent - length received) sent) ≡ 0 = ap length none in
    omega (arith, many, zero)

-- so all items came that the texts stand for
all_come : {A : Type 0} (heard : List (List ℕ)) (items : List A) → length items ≤ length heard
    → come heard items ≡ items
all_come heard items few =
    let none : length items - length heard ≡ zero = omega arith in
    ap (λ n. drop n items) none

-- ---- the newest item
-- a list whose newest item is this, whatever stands for an empty one, isn't empty
newest_is : (controls : List Control) (control : Control) → ((other : Control) → latest_of other controls ≡ control)
    → newest controls ≡ Some (Ok control)
newest_is [] control is =
    let same : Unavailable ≡ Available (pos 0) 0 (pos 0) = is Unavailable ∙ sym (is (Available (pos 0) 0 (pos 0))) in
    absurd (cc)
newest_is (first ∷ older) control is = ap (λ (c : Control). Some (Ok c)) (is Unavailable)

-- the newest of states
latest_is : (states : List State) → latest states ≡ latest_of empty states
latest_is [] = refl
latest_is (state ∷ older) = refl

-- what is told of timelines in a published state
told_timelines : (a : Addresses) (p : Player) → (published_state a p).timelines ≡ timelines_of p
unfolding published_state
told_timelines a p = refl

-- ---- the sessions
-- a session whose setup came has it
is_set_up : (setup : Setup) (received : List (List ℕ)) (life : Life) → received ≢ [] → IsLifeOf setup received life
    → (p : Player) × (ps : List Player) × (life ≡ TsLife setup p ps)
is_set_up setup [] life some of = absurd (some refl)
is_set_up setup (text ∷ older) life some of = of

module _ (header : Header) (who : ℕ) (first : 1 ≤ who) (events : List TvEvent) (own : History)
    (order : IsInOrder header who events own) where
  -- the peers of its sessions
  abbrev cii : ℕ
  cii = cii_of who

  abbrev ts : ℕ
  ts = ts_of who

  -- what is shown
  abbrev shown : Player
  shown = shown_after events

  -- what the companion asks of the television
  abbrev wanted : Setup
  wanted = setup_of who header

  -- the control that came last is the one that is published for the companion's setup
  control_is : is_open ts own ≡ true → received_from ts events ≢ []
      → in_flight (told_to ts events) (heard_from ts own) ≡ [] → control_by own ≡ Some (Ok (control_for wanted shown))
  control_is live set_up none =
      let talked = order.talked in
      let opened = (ts_live header who events own talked live).1 in
      let set = is_set_up wanted (received_from ts events) opened.life set_up opened.of in
      let p = set.0 in
      let ps = set.1 in
      let lived : lived_after ts events ≡ lived_as (TsLife wanted p ps) true =
      opened.is ∙ ap (lived_as opened.life) live ∙ ap (λ (l : Life). lived_as l true) set.2 in
      let reads : ReadsAsControls wanted p ps = subst AreReadBack lived (back header who first events own talked ts) in
      let many : length (told_to ts events) ≡ length (controls_after who events) =
      as_many ReadsAs (told_to ts events) (controls_after who events) (controls_said header who first events own talked)
      in
      let flies = none_flies (told_to ts events) (heard_from ts own) none in
      let all : come (heard_from ts own) (controls_after who events) ≡ ts_controls wanted p ps =
      all_come (heard_from ts own) (controls_after who events) (omega (arith, many, flies))
      ∙ ap controls_of_lived lived in
      let last = control_for wanted (latest_of p ps) in
      let current : last ≡ control_for wanted shown = subst (Shows shown) lived talked.shows refl in
      order.hearing.control ∙ ap newest all ∙ newest_is (ts_controls wanted p ps) last reads.newest
      ∙ ap (λ (c : Control). Some (Ok c)) current

  -- the state that came last is the published one
  state_is : is_open cii own ≡ true → in_flight (told_to cii events) (heard_from cii own) ≡ []
      → state_of own ≡ published_state addresses shown
  state_is live none =
      let h = (calls_of addresses events).sessions in
      let staged = order.talked.staging.staged in
      let opened = (cii_live header who events own order.talked live).1 in
      let s = opened.first in
      let ss = opened.later in
      let lived : lived_after cii events ≡ lived_as (CiiLife s ss) true =
      opened.is ∙ ap (lived_as (CiiLife s ss)) live in
      let reads : ReadsAsStates s ss = subst AreReadBack lived (back header who first events own order.talked cii) in
      let many : length (told_to cii events) ≡ length (states_after who events) =
      as_many TellsAfter (told_to cii events) (states_after who events)
      (states_said header who first events own order.talked) in
      let flies = none_flies (told_to cii events) (heard_from cii own) none in
      let all : come (heard_from cii own) (states_after who events) ≡ cii_states s ss =
      all_come (heard_from cii own) (states_after who events) (omega (arith, many, flies)) ∙ ap states_of_lived lived in
      let kept = is_kept h staged.sessions.lawful in
      let current : latest_of s ss ≡ state_kept h = subst (IsCurrent (state_kept h)) lived (kept.current cii) refl in
      told_is_published own (come (heard_from cii own) (states_after who events)) order.hearing.tells
      ∙ ap latest all ∙ latest_is (cii_states s ss) ∙ reads.newest empty ∙ current ∙ sym kept.state
      ∙ staged.stage.current

  -- the session isn't known to be closed
  not_closed : is_open ts own ≡ true → is_closed own ≡ false
  not_closed live = (ts_live header who events own order.talked live).1.closed live

  -- so the companion assigns what is published
  assigned_is : (wall : ℕ) → is_open cii own ≡ true → is_open ts own ≡ true → received_from ts events ≢ []
      → in_flight (told_to cii events) (heard_from cii own) ≡ [] → in_flight (told_to ts events) (heard_from ts own)
      ≡ [] → assigned_after wanted.selector own wall ≡ published_tick wanted shown wall
  assigned_is wall cii_open ts_open set_up states controls =
      let assigned : Option (Result Control TsFault) → Bool → Option (List Timeline) → Option ℤ =
      λ told closed timelines. assigned_by (timing_of told closed (rate_of wanted.selector timelines)) wall in
      let control = Some (Ok (control_for wanted shown)) in
      ap (λ told. assigned told (is_closed own) (state_of own).timelines) (control_is ts_open set_up controls)
      ∙ ap (λ closed. assigned control closed (state_of own).timelines) (not_closed ts_open)
      ∙ ap (λ (s : State). assigned control false s.timelines) (state_is cii_open states)
      ∙ ap (assigned control false) (told_timelines addresses shown) ∙ same_tick wanted shown wall

-- ---- the position that is shown
-- a segment in range doesn't begin before 0
begins_late : (p : Player) → IsPlayable p → (s : Segment) → p.segment ≡ Some s → pos 0 ≤ℤ s.at
begins_late p playable s is = (subst (λ (o : Option Segment). IfSome o IsSegment) is playable.segment).at_low

-- a timeline that is shown has a rate in range
track_found : (selector : List ℕ) (o : Option Programme) → IfSome o IsPlayableProgramme
    → IfSome (option_and_then (track_of selector) o) IsPlayableTrack
track_found selector None good = tt
track_found selector (Some p) good = all-find IsPlayableTrack (λ t. bytes_eq t.selector selector) p.tracks good.tracks

-- so its ticks have a length
rate_positive : (p : Player) (selector : List ℕ) → IsPlayable p → (t : Track)
    → option_and_then (track_of selector) (present p) ≡ Some t → 0 < t.rate.units_per_tick
rate_positive p selector playable t is =
    (rw is at (track_found selector (present p) (present_playable p playable))).rate.tick_positive

-- what is assigned is the position that is shown, or one less
shown_if : (setup : Setup) (p : Player) (wall : ℕ) (o : Option ℤ) → IsPlayable p → published_tick setup p wall ≡ o
    → IfSome o (IsShownAt setup p wall)
shown_if setup p wall None playable is = tt
shown_if setup p wall (Some tick) playable is =
    shown_at setup p wall tick (begins_late p playable) (rate_positive p setup.selector playable) is

-- Where both sessions of companion `who` are open, its setup has come and no text of the television is in flight, it
-- assigns what the television published, which is the position that is shown, or one tick less.
pub in_step : (header : Header) (lines : List Numbered) (who wall : ℕ) → 1 ≤ who → IsDeclared header
    → AreAccepted header lines → HasAllCome who header lines → IsInStep who header lines wall
in_step header lines who wall first declared accepted all =
    let events = events_of header lines in
    let own = history_of who header lines in
    let order = in_order header lines who first declared accepted in
    let playable = order.talked.staging.staged.playable in
    let is = assigned_is header who first events own order wall all.cii_open all.ts_open all.set_up all.states
    all.controls in
    let tick = assigned_at who header lines wall in
    record { published = is; shown = shown_if (setup_of who header) (shown_after events) wall tick playable (sym is) }
