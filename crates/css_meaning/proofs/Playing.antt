-- What a television's player shows is in range, and its texts are UTF-8; so what it publishes can be told.
use Rattle.std.proofs.Common.{◌≡◌, ℕ, zero, suc, ◌-◌, ◌*◌, ◌<◌, ◌≤◌, refl, subst, arith, Bool, true, false, cond, ◌==◌}
use Rattle.std.proofs.Common.{List, [], ◌∷◌, ◌++◌, length, set, nat_lt, nat_le, ltb-false, mul-le-mul}
use Rattle.std.specs.Prelude.{ℤ, pos, ◌*ℤ◌, unsigned_abs, int_lt, map, find, bytes_eq, nat_eq, slice_get, Option, Some}
use Rattle.std.specs.Prelude.{None, IfSome, option_map, option_and_then, Result, Ok, Err}
use Rattle.std.specs.Str.{IsUtf8}
use Rattle.css_num.proofs.Rounding.{floor_div-within}
use Rattle.css_cii.specs.Texts.{EachIn, SelectorsAreUtf8, RatesAreInRange}
use Rattle.css_player.specs.Segments.{numbered, track_of, tick_of, changed_to, sped, sped_to, sought, sought_to, placed}
use Rattle.css_player.specs.Segments.{turned, delayed, with_segment, commanded, with_delay, with_programme, with_track}
use Rattle.css_player.specs.Segments.{longer, told_of, present, control_of, control_from, control_in, control_at}
use Rattle.css_player.specs.declared.command.Command.TheVariants as command
use Rattle.css_player.specs.declared.command.PlayerFault.TheVariants as fault
use Rattle.css_tsmsg.specs.Controls.{IsInRange}
use Rattle.css_sessions.specs.Offsets.{control_for}
use Rattle.css_sessions.specs.Told.{IsReadable}
use Rattle.css_sessions.proofs.Ranges.{published}
use Rattle.css_tv.specs.States.{published_state}
use Rattle.css_tv.proofs.States.{state_utf8}
use Rattle.css_meaning.proofs.Names.{AllByRecursion, starts_with, ints, unsigned_abs-mul, LIMIT, IsTickRate}
use Rattle.css_meaning.proofs.Names.{Unavailable, Track, Programme, Segment, Player, media_limit, max_delay, IsSegment}
use Rattle.css_meaning.proofs.Names.{IsTrack, IsPublished, Command, Setup, Addresses, ok_same}

-- a timeline's base and its rate are in range, and its selector is UTF-8
pub record IsPlayableTrack (t : Track) : Type 0 where
  pub track : IsTrack t
  pub rate : IsTickRate t.rate

-- so are those of a programme, and its content id is UTF-8
pub record IsPlayableProgramme (p : Programme) : Type 0 where
  pub content_id : IsUtf8 p.content_id
  pub tracks : AllByRecursion IsPlayableTrack p.tracks

-- so are those of all programmes, and the segment is in range
pub record IsPlayable (p : Player) : Type 0 where
  pub programmes : AllByRecursion IsPlayableProgramme p.programmes
  pub segment : IfSome p.segment IsSegment

-- ---- lists
-- what holds of all holds of each
all-get : {A : Type 0} (P : A → Type 0) (xs : List A) (i : ℕ) → AllByRecursion P xs → IfSome (slice_get xs i) P
all-get P [] i h = tt
all-get P (x ∷ xs) zero h = h.0
all-get P (x ∷ xs) (suc i) h = all-get P xs i h.1

-- of the one with a number
all-numbered : {A : Type 0} (P : A → Type 0) (xs : List A) (n : ℕ) → AllByRecursion P xs → IfSome (numbered xs n) P
all-numbered P xs n h = go (n == 0) where
  go : (b : Bool) → IfSome (cond b None (slice_get xs (n - 1))) P
  go true = tt
  go false = all-get P xs (n - 1) h

-- and of the first that passes a test
pub all-find : {A : Type 0} (P : A → Type 0) (test : A → Bool) (xs : List A) → AllByRecursion P xs
    → IfSome (find test xs) P
all-find P test [] h = tt
all-find P test (x ∷ xs) h = go (test x) (all-find P test xs h.1) where
  go : (b : Bool) → IfSome (find test xs) P → IfSome (cond b (Some x) (find test xs)) P
  go true rest = h.0
  go false rest = rest

-- it holds with one more
all-pushed : {A : Type 0} (P : A → Type 0) (xs : List A) (x : A) → AllByRecursion P xs → P x
    → AllByRecursion P (xs ++ x ∷ [])
all-pushed P [] x h new = (new, tt)
all-pushed P (y ∷ ys) x h new = (h.0, all-pushed P ys x h.1 new)

-- and with another in a place
all-set : {A : Type 0} (P : A → Type 0) (xs : List A) (i : ℕ) (x : A) → AllByRecursion P xs → P x
    → AllByRecursion P (set xs i x)
all-set P [] i x h new = tt
all-set P (y ∷ ys) zero x h new = (new, h.1)
all-set P (y ∷ ys) (suc i) x h new = (h.0, all-set P ys i x h.1 new)

-- ---- refusals
-- a chain that ends in Ok passed its test
passed : {A E : Type 0} (b : Bool) (e : E) (r : Result A E) (y : A) → cond b (Err e) r ≡ Ok y → (b ≡ false) × (r ≡ Ok y)
passed true e r y h = absurd (cc)
passed false e r y h = (refl, h)

-- ---- programmes and timelines
-- a player is playable with one more programme
pub programme_playable : (content_id : List ℕ) (p q : Player) → with_programme content_id p ≡ Ok q → IsUtf8 content_id
    → IsPlayable p → IsPlayable q
programme_playable content_id p q is utf8 playable =
    let new : Programme = record { content_id = content_id; tracks = [] } in
    let more : Player = record { programmes = p.programmes ++ new ∷ []; segment = p.segment } in
    let same : more ≡ q = ok_same more q (passed (nat_le 1000 (length p.programmes)) fault.Full (Ok more) q is).1 in
    subst IsPlayable same (record {
      programmes = all-pushed IsPlayableProgramme p.programmes new playable.programmes
          (record { content_id = utf8; tracks = tt });
      segment = playable.segment;
    })

-- with one more timeline of a programme that it has
track_playable : (n : ℕ) (t : Track) (p q : Player) (found : Option Programme) → with_track n t p found ≡ Ok q
    → IfSome found IsPlayableProgramme → IsUtf8 t.selector → IsTickRate t.rate → IsPlayable p → IsPlayable q
track_playable n t p q None is good utf8 rate playable = absurd (cc)
track_playable n t p q (Some x) is good utf8 rate playable =
    let more : Player = record { programmes = set p.programmes (n - 1) (longer t x); segment = p.segment } in
    let near = passed (nat_lt media_limit (unsigned_abs t.base)) fault.Range _ q is in
    let room = passed (nat_le 16 (length x.tracks)) fault.Full (Ok more) q near.1 in
    let small : unsigned_abs t.base ≤ media_limit = ltb-false media_limit (unsigned_abs t.base) near.0 in
    let new : IsPlayableTrack t = record { track = record { base_small = small; selector_utf8 = utf8 }; rate = rate } in
    let longer_so : IsPlayableProgramme (longer t x) = record {
      content_id = good.content_id;
      tracks = all-pushed IsPlayableTrack x.tracks t good.tracks new;
    } in
    subst IsPlayable (ok_same more q room.1) (record {
      programmes = all-set IsPlayableProgramme p.programmes (n - 1) (longer t x) playable.programmes longer_so;
      segment = playable.segment;
    })

-- so a player is playable with one more timeline
pub timeline_playable : (n : ℕ) (t : Track) (p q : Player) → with_track n t p (numbered p.programmes n) ≡ Ok q
    → IsUtf8 t.selector → IsTickRate t.rate → IsPlayable p → IsPlayable q
timeline_playable n t p q is utf8 rate playable =
    track_playable n t p q (numbered p.programmes n) is
    (all-numbered IsPlayableProgramme p.programmes n playable.programmes) utf8 rate playable

-- ---- commands
-- with another segment in range
segment_playable : (p q : Player) (s : Segment) → with_segment p (Ok s) ≡ Ok q → IsSegment s → IsPlayable p
    → IsPlayable q
segment_playable p q s is ranged playable =
    let next : Player = record { programmes = p.programmes; segment = Some s } in
    subst IsPlayable (ok_same next q is) (record { programmes = playable.programmes; segment = ranged })

-- where a programme is shown from its beginning
changed_playable : (n reading : ℕ) (p q : Player) (found : Option Programme)
    → with_segment p (changed_to n reading found) ≡ Ok q → reading < LIMIT → IsPlayable p → IsPlayable q
changed_playable n reading p q None is early playable = absurd (cc)
changed_playable n reading p q (Some x) is early playable =
    segment_playable p q _ is (record {
      at_low = omega (arith, ints);
      at_high = omega (arith, ints);
      media_small = omega (arith, ints);
      speed_small = omega (arith, ints);
      delay_small = omega arith;
    }) playable

-- a segment that is moved is in range, where its speed is, and its position isn't too far out
placed_playable : (p q : Player) (s : Segment) → with_segment p (placed s) ≡ Ok q
    → (unsigned_abs s.media ≤ media_limit → IsSegment s) → IsPlayable p → IsPlayable q
placed_playable p q s is ranged playable = go (nat_lt media_limit (unsigned_abs s.media)) refl is where
  go : (b : Bool) → nat_lt media_limit (unsigned_abs s.media) ≡ b
      → with_segment p (cond b (Err fault.Range) (Ok s)) ≡ Ok q → IsPlayable q
  go true far is = absurd (cc)
  go false near is = segment_playable p q s is (ranged (ltb-false media_limit (unsigned_abs s.media) near)) playable

-- so it is at another speed
sped_playable : (speed : ℤ) (reading : ℕ) (p q : Player) (o : Option Segment)
    → with_segment p (sped_to speed reading o) ≡ Ok q
    → reading < LIMIT → IfSome o IsSegment → IsPlayable p → IsPlayable q
sped_playable speed reading p q None is early ranged playable = absurd (cc)
sped_playable speed reading p q (Some s) is early ranged playable = go (nat_lt 64 (unsigned_abs speed)) refl is where
  go : (b : Bool) → nat_lt 64 (unsigned_abs speed) ≡ b
      → with_segment p (cond b (Err fault.Speed) (placed (sped speed reading s))) ≡ Ok q → IsPlayable q
  go true fast is = absurd (cc)
  go false slow is =
      placed_playable p q (sped speed reading s) is (λ near. record {
        at_low = omega (arith, ints);
        at_high = omega (arith, ints);
        media_small = near;
        speed_small = ltb-false 64 (unsigned_abs speed) slow;
        delay_small = ranged.delay_small;
      }) playable

-- and from another position
sought_playable : (media : ℤ) (reading : ℕ) (p q : Player) (o : Option Segment)
    → with_segment p (sought_to media reading o) ≡ Ok q
    → reading < LIMIT → IfSome o IsSegment → IsPlayable p → IsPlayable q
sought_playable media reading p q None is early ranged playable = absurd (cc)
sought_playable media reading p q (Some s) is early ranged playable =
    placed_playable p q (sought media reading s) is (λ near. record {
      at_low = omega (arith, ints);
      at_high = omega (arith, ints);
      media_small = near;
      speed_small = ranged.speed_small;
      delay_small = ranged.delay_small;
    }) playable

-- a player stays playable by a command that it accepts
pub command_playable : (c : Command) (reading : ℕ) (p q : Player) → commanded c reading p ≡ Ok q → reading < LIMIT
    → IsPlayable p → IsPlayable q
command_playable (command.Change n) reading p q is early playable =
    changed_playable n reading p q (numbered p.programmes n) is early playable
command_playable (command.Speed speed) reading p q is early playable =
    sped_playable speed reading p q p.segment is early playable.segment playable
command_playable (command.Seek media) reading p q is early playable =
    sought_playable media reading p q p.segment is early playable.segment playable

-- ---- delays
-- a segment with another delay is in range
delayed_ranged : (delay : ℕ) (s : Segment) → delay ≤ max_delay → IsSegment s → IsSegment (delayed delay s)
delayed_ranged delay s small ranged = go (int_lt (turned delay s) (pos 0)) refl where
  go : (b : Bool) → int_lt (turned delay s) (pos 0) ≡ b → IsSegment (cond b s (record {
    at = turned delay s;
    media = s.media;
    speed = s.speed;
    programme = s.programme;
    delay = delay;
  }))
  go true before = ranged
  go false later = record {
    at_low = grind (arith, ints);
    at_high = omega (arith, ints, ranged.at_high);
    media_small = ranged.media_small;
    speed_small = ranged.speed_small;
    delay_small = small;
  }

-- so a player stays playable by another delay
pub delay_playable : (delay : ℕ) (p : Player) → delay ≤ max_delay → IsPlayable p → IsPlayable (with_delay delay p)
delay_playable delay p small playable =
    record { programmes = playable.programmes; segment = go p.segment playable.segment }
  where
    go : (o : Option Segment) → IfSome o IsSegment → IfSome (option_map (delayed delay) o) IsSegment
    go None ranged = tt
    go (Some s) ranged = delayed_ranged delay s small ranged

-- ---- what is published
-- the tick of a segment's position is in range
tick_small : (t : Track) (media : ℤ) → IsPlayableTrack t → unsigned_abs media ≤ media_limit
    → unsigned_abs (tick_of t media) ≤ 200000000000000000
tick_small t media good near =
    let far : unsigned_abs (media *ℤ pos t.rate.units_per_second) ≤ media_limit * (t.rate.units_per_tick * 1000000000) =
    omega (
      arith,
      unsigned_abs-mul media (pos t.rate.units_per_second),
      mul-le-mul near good.rate.second_small,
      good.rate.tick_positive,
    ) in
    let quotient =
    floor_div-within (media *ℤ pos t.rate.units_per_second) media_limit (t.rate.units_per_tick * 1000000000)
    (omega (arith, good.rate.tick_positive)) far in
    omega (arith, ints, quotient, good.track.base_small)

-- so the control of a timeline can be published
shown_published : (s : Segment) (o : Option Track) → IsSegment s → IfSome o IsPlayableTrack
    → IsPublished (control_at s o)
shown_published s None ranged good = tt
shown_published s (Some t) ranged good = record {
  content_small = tick_small t s.media good ranged.media_small;
  wall_small = omega (arith, ints, ranged.at_low, ranged.at_high, ranged.delay_small);
  speed_small = ranged.speed_small;
}

-- and that of a programme
programme_published : (stem selector : List ℕ) (s : Segment) (o : Option Programme) → IsSegment s
    → IfSome o IsPlayableProgramme → IsPublished (control_in stem selector s o)
programme_published stem selector s None ranged good = tt
programme_published stem selector s (Some p) ranged good = go (starts_with nat_eq p.content_id stem) where
  go : (b : Bool) → IsPublished (cond b (control_at s (track_of selector p)) Unavailable)
  go true =
      shown_published s (track_of selector p) ranged
      (all-find IsPlayableTrack (λ t. bytes_eq t.selector selector) p.tracks good.tracks)
  go false = tt

-- the control that a playable player publishes for a setup can be told
pub control_in_range : (setup : Setup) (p : Player) → IsPlayable p → IsInRange (control_for setup p)
unfolding control_for
control_in_range setup p playable =
    (published (control_of setup.stem setup.selector p) (go p.segment playable.segment)).0
  where
    go : (o : Option Segment) → IfSome o IsSegment → IsPublished (control_from setup.stem setup.selector p.programmes o)
    go None ranged = tt
    go (Some s) ranged = programme_published setup.stem setup.selector s (numbered p.programmes s.programme) ranged
        (all-numbered IsPlayableProgramme p.programmes s.programme playable.programmes)

-- the programme that is shown is in range
pub present_playable : (p : Player) → IsPlayable p → IfSome (present p) IsPlayableProgramme
present_playable p playable = go p.segment where
  go : (o : Option Segment) → IfSome (option_and_then (λ s. numbered p.programmes s.programme) o) IsPlayableProgramme
  go None = tt
  go (Some s) = all-numbered IsPlayableProgramme p.programmes s.programme playable.programmes

-- what is told of its timelines can be told
tracks_utf8 : (tracks : List Track) → AllByRecursion IsPlayableTrack tracks → SelectorsAreUtf8 (map told_of tracks)
tracks_utf8 [] good = tt
tracks_utf8 (t ∷ tracks) good = (good.0.track.selector_utf8, tracks_utf8 tracks good.1)

-- and their rates are in range
tracks_in_range : (tracks : List Track) → AllByRecursion IsPlayableTrack tracks → RatesAreInRange (map told_of tracks)
tracks_in_range [] good = tt
tracks_in_range (t ∷ tracks) good = (good.0.rate, tracks_in_range tracks good.1)

-- the content id that is published is UTF-8
content_utf8 : (o : Option Programme) → IfSome o IsPlayableProgramme → EachIn IsUtf8 (option_map (λ p. p.content_id) o)
content_utf8 None good = tt
content_utf8 (Some p) good = good.content_id

-- so are the published selectors
timelines_utf8 : (o : Option Programme) → IfSome o IsPlayableProgramme
    → EachIn SelectorsAreUtf8 (option_map (λ p. map told_of p.tracks) o)
timelines_utf8 None good = tt
timelines_utf8 (Some p) good = tracks_utf8 p.tracks good.tracks

-- and the published rates are in range
timelines_in_range : (o : Option Programme) → IfSome o IsPlayableProgramme
    → EachIn RatesAreInRange (option_map (λ p. map told_of p.tracks) o)
timelines_in_range None good = tt
timelines_in_range (Some p) good = tracks_in_range p.tracks good.tracks

-- so can its state
pub state_readable : (a : Addresses) (p : Player) → IsUtf8 a.wc_url → IsUtf8 a.ts_url → IsPlayable p
    → IsReadable (published_state a p)
unfolding published_state
state_readable a p wc ts playable =
    let shown = present_playable p playable in
    record {
      utf8 = state_utf8 a p wc ts (content_utf8 (present p) shown) (timelines_utf8 (present p) shown);
      in_range = timelines_in_range (present p) shown;
    }
