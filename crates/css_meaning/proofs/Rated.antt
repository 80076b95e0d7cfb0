-- What a companion assigns, where its state and its control timestamp are the published ones.
use Rattle.std.proofs.Common.{◌≡◌, ℕ, ◌<◌, ◌⊎◌, arith, ap, sym, subst, ◌∙◌, refl, Bool, true, false, cond, List, []}
use Rattle.std.proofs.Common.{◌∷◌, ℤ, pos, negsuc, ◌+ℤ◌, ◌≤ℤ◌, Option, Some, None, Ok, map, find, bytes_eq, nat_eq}
use Rattle.std.proofs.Common.{unsigned_abs, option_map, option_and_then}
use Rattle.css_player.specs.Segments.{numbered, present, track_of, told_of, tick_of, position_at, control_at}
use Rattle.css_player.specs.Segments.{control_in, control_from, rate_in}
use Rattle.css_sessions.specs.Offsets.{control_for}
use Rattle.css_tv.specs.States.{timelines_of}
use Rattle.css_companion.specs.TimelineRates.{first_rate, rate_of, unlisted_rate}
use Rattle.css_meaning.specs.Arrived.{published_tick, IsShownAt}
use Rattle.css_meaning.proofs.Names.{starts_with, option_or, ints, TickRate, Control, Unavailable, Timeline, Setup}
use Rattle.css_meaning.proofs.Names.{Player, Programme, Segment, Track, position, assigned_by, timing_by, timing_of}
use Rattle.css_meaning.proofs.Floors.{shown_nearly}

-- the first rate with a selector is that of the first timeline with it
first_rate-told : (selector : List ℕ) (tracks : List Track) → first_rate selector (map told_of tracks)
    ≡ option_map (λ (t : Track). t.rate) (find (λ t. bytes_eq t.selector selector) tracks)
first_rate-told selector [] = refl
first_rate-told selector (t ∷ tracks) = by (bytes_eq t.selector selector) (first_rate-told selector tracks)
  where
    by : (b : Bool) → first_rate selector (map told_of tracks)
        ≡ option_map (λ (x : Track). x.rate) (find (λ x. bytes_eq x.selector selector) tracks)
        → cond b (Some t.rate) (first_rate selector (map told_of tracks))
        ≡ option_map (λ (x : Track). x.rate) (cond b (Some t) (find (λ x. bytes_eq x.selector selector) tracks))
    by true older = refl
    by false older = older

-- the tick of a control, where the timeline has this rate
abbrev tick_with : Control → Option TickRate → ℕ → Option ℤ
tick_with control rate wall = assigned_by (timing_by (Ok control) rate) wall

-- the timelines that are told of a programme, or none
abbrev told_in : Option Programme → Option (List Timeline)
told_in programme = option_map (λ p. map told_of p.tracks) programme

-- what is published for a programme that is shown, or none
tick-in : (stem selector : List ℕ) (s : Segment) (o : Option Programme) (wall : ℕ)
    → let control = control_in stem selector s o in
    tick_with control (rate_of selector (told_in o)) wall ≡ tick_with control (rate_in selector o) wall
tick-in stem selector s None wall = refl
tick-in stem selector s (Some p) wall = by (starts_with nat_eq p.content_id stem)
  where
    rated : (o : Option Track) → let rate = option_map (λ (t : Track). t.rate) o in
        tick_with (control_at s o) (option_or rate (unlisted_rate selector)) wall ≡ tick_with (control_at s o) rate wall
    rated None = refl
    rated (Some t) = refl

    published : Bool → Control
    published b = cond b (control_at s (track_of selector p)) Unavailable

    by : (b : Bool) → tick_with (published b) (rate_of selector (Some (map told_of p.tracks))) wall
        ≡ tick_with (published b) (rate_in selector (Some p)) wall
    by false = refl
    by true =
        ap (λ (r : Option TickRate). tick_with (published true) (option_or r (unlisted_rate selector)) wall)
        (first_rate-told selector p.tracks) ∙ rated (track_of selector p)

-- the programme of a segment
abbrev programme_of : Player → Option Segment → Option Programme
programme_of player segment = option_and_then (λ s. numbered player.programmes s.programme) segment

-- a companion that was told the published state and the published control assigns what the control assigns
pub same_tick : (setup : Setup) (player : Player) (wall : ℕ)
    → let rate = rate_of setup.selector (timelines_of player) in
    assigned_by (timing_of (Some (Ok (control_for setup player))) false rate) wall ≡ published_tick setup player wall
unfolding control_for
same_tick setup player wall = by player.segment
  where
    control : Option Segment → Control
    control segment = control_from setup.stem setup.selector player.programmes segment

    by : (segment : Option Segment)
        → tick_with (control segment) (rate_of setup.selector (told_in (programme_of player segment))) wall
        ≡ tick_with (control segment) (rate_in setup.selector (programme_of player segment)) wall
    by None = refl
    by (Some s) = tick-in setup.stem setup.selector s (numbered player.programmes s.programme) wall

-- ---- the position that is shown
-- what is there is this
some-same : {A : Type 0} (x y : A) → Some x ≡ Some y → x ≡ y
some-same x y e = cc

-- a number that isn't below zero is its own size
size-is : (z : ℤ) → pos 0 ≤ℤ z → z ≡ pos (unsigned_abs z)
size-is (pos n) low = refl
size-is (negsuc n) low = absurd (omega (arith, ints, low))

-- a timeline shows this tick, or the next one
abbrev IsNearly : Track → Segment → ℕ → ℤ → Type 0
IsNearly track s wall tick = (position_at track s (pos wall) ≡ tick) ⊎ (position_at track s (pos wall) ≡ tick +ℤ pos 1)

-- the published tick of a segment is the position that is shown, or one less
shown-in : (stem selector : List ℕ) (s : Segment) (o : Option Programme) (track : Track) (wall : ℕ) (tick : ℤ)
    → pos 0 ≤ℤ s.at → 0 < track.rate.units_per_tick → option_and_then (track_of selector) o ≡ Some track
    → tick_with (control_in stem selector s o) (rate_in selector o) wall ≡ Some tick → IsNearly track s wall tick
shown-in stem selector s None track wall tick low positive is e = absurd (cc)
shown-in stem selector s (Some p) track wall tick low positive is e = by (starts_with nat_eq p.content_id stem) e
  where
    assigned : Option Track → Option ℤ
    assigned o = tick_with (control_at s o) (option_map (λ (t : Track). t.rate) o) wall

    published : Bool → Control
    published b = cond b (control_at s (track_of selector p)) Unavailable

    by : (b : Bool) → tick_with (published b) (rate_in selector (Some p)) wall ≡ Some tick → IsNearly track s wall tick
    by false x = absurd (cc)
    by true x =
        let at = unsigned_abs s.at in
        let known : assigned (Some track) ≡ Some tick = ap assigned (sym is) ∙ x in
        let same : position (tick_of track s.media) at s.speed track.rate (pos wall) ≡ tick =
        some-same (position (tick_of track s.media) at s.speed track.rate (pos wall)) tick known in
        subst (IsNearly track s wall) same (shown_nearly track s at wall positive (size-is s.at low))

-- what a player publishes is the position that it shows, or one less
pub shown_at : (setup : Setup) (player : Player) (wall : ℕ) (tick : ℤ)
    → ((s : Segment) → player.segment ≡ Some s → pos 0 ≤ℤ s.at)
    → ((t : Track) → option_and_then (track_of setup.selector) (present player) ≡ Some t → 0 < t.rate.units_per_tick)
    → published_tick setup player wall ≡ Some tick → IsShownAt setup player wall tick
unfolding control_for
shown_at setup player wall tick low positive e = λ segment track is found.
    let programme : Option Programme = numbered player.programmes segment.programme in
    let present_is : present player ≡ programme = ap (programme_of player) is in
    let found_so : option_and_then (track_of setup.selector) programme ≡ Some track =
    ap (λ (o : Option Programme). option_and_then (track_of setup.selector) o) (sym present_is) ∙ found in
    let published : Option Segment → Option ℤ = λ o.
    tick_with (control_from setup.stem setup.selector player.programmes o)
    (rate_in setup.selector (programme_of player o)) wall in
    let tick_so : published (Some segment) ≡ Some tick = ap published (sym is) ∙ e in
    shown-in setup.stem setup.selector segment programme track wall tick (low segment is) (positive track found)
    found_so tick_so
