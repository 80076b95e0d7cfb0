-- What a verdict means for pairs of lines.
use Rattle.std.proofs.Common.{◌≡◌, ℕ, ◌≤◌, ◌⊎◌, inl, inr, refl, arith, Bool, true, false, List, [], ◌∷◌, ◌++◌}
use Rattle.std.specs.Prelude.{ℤ, pos, ◌≤ℤ◌, ◌<ℤ◌, int_lt, neg_ℤ, nat_lt, ◌↔◌, slice_index_or, All, Option, Some, None}
use Rattle.std.specs.Prelude.{IfSome, MatchOption, Result, Ok, Err}
use Rattle.std.specs.Result.{result_and}
use Rattle.std.proofs.lemmas.Int.{ints}
use Rattle.std.proofs.lemmas.List.Elements.{All-nil, All-cons, All-append, All-head, All-tail, All-weaker}
use borrow.Author.Tests.{ltb-true, ltb-false}
use Rattle.css_model.specs.WallClock.{IsLeast}
use Rattle.css_model.proofs.Narrowest.{least_by-least}
use Rattle.css_moments.specs.declared.fault.DriftFault.{DriftFault}
use Rattle.css_moments.specs.Drifts.{Shown, Told, Showed, Slept, all_shown, last_shown, shown_lately, excess, worst}
use Rattle.css_moments.specs.Drifts.{time_verdict, drift_verdict, IsAccepted, Keeps, EachPair, AcceptedKeeps, NoSleep}
use Rattle.css_moments.specs.Drifts.{AnyTwoKeep, AcceptsExactly, FallsBack, DriftsMost, RefusesTheWorst}
use Rattle.css_moments.proofs.Excesses.{excess-keeps}

-- ---- why a line is refused
-- a line is refused for its true time or for its drift
either_fault : (times drifts : Result (Unit {0}) DriftFault) (fault : DriftFault) → result_and times drifts ≡ Err fault
    → (times ≡ Err fault) ⊎ (drifts ≡ Err fault)
either_fault (Ok done) drifts fault e = inr e
either_fault (Err first) drifts fault e = inl e

-- true time is below that of the last line
falls_back : (told : List Told) (now : Shown) (fault : DriftFault) (last : Option Shown) → last_shown told ≡ last
    → time_verdict last now ≡ Err fault
    → FallsBack told now fault
falls_back told now fault None is e = cc
falls_back told now fault (Some last) is e = by (nat_lt now.time last.time) refl
  where
    by : (t : Bool) → nat_lt now.time last.time ≡ t → FallsBack told now fault
    by true g =
        let chosen = rw g at e in
        record { last = last; is_last = is; below = omega (arith, ltb-true); is_told = cc chosen }
    by false g = let chosen = rw g at e in cc chosen

-- the drift from the worst line is too great
drifts_most : (error : ℕ) (told : List Told) (now : Shown) (fault : DriftFault) (earlier : Option Shown)
    → MatchOption earlier (shown_lately told ≡ []) (IsLeast (λ s. neg_ℤ (excess error s now)) (shown_lately told))
    → drift_verdict error earlier now ≡ Err fault → DriftsMost error told now fault
drifts_most error told now fault None least e = cc
drifts_most error told now fault (Some earlier) least e = by (int_lt (pos 0) (excess error earlier now)) refl
  where
    by : (t : Bool) → int_lt (pos 0) (excess error earlier now) ≡ t → DriftsMost error told now fault
    by true g =
        let chosen = rw g at e in
        record {
          earlier = earlier;
          newer = least.newer;
          older = least.older;
          is_among = least.is_among;
          newer_no_greater =
              All-weaker (λ s. neg_ℤ (excess error earlier now) ≤ℤ neg_ℤ (excess error s now)) (λ s.
              excess error s now ≤ℤ excess error earlier now) (λ s h. omega (arith, ints)) least.newer
              least.newer_no_less;
          older_less =
              All-weaker (λ s. neg_ℤ (excess error earlier now) <ℤ neg_ℤ (excess error s now)) (λ s.
              excess error s now <ℤ excess error earlier now) (λ s h. omega (arith, ints)) least.older
              least.older_greater;
          above = omega (arith, ints, g);
          is_told = cc chosen;
        }
    by false g = let chosen = rw g at e in cc chosen

-- the law
pub refuses_the_worst : RefusesTheWorst
refuses_the_worst error told now fault e =
    elim
    (either_fault (time_verdict (last_shown told) now) (drift_verdict error (worst error (shown_lately told) now) now)
    fault e) [
      | inl h ↦ inl (falls_back told now fault (last_shown told) refl h)
      | inr h ↦
          inr (drifts_most error told now fault (worst error (shown_lately told) now)
          (least_by-least (λ s. neg_ℤ (excess error s now)) (shown_lately told)) h)
    ]

-- ---- which lines are accepted
-- an accepted line passed both tests
both_ok : (times drifts : Result (Unit {0}) DriftFault) → result_and times drifts ≡ Ok tt → (times ≡ Ok tt)
    × (drifts ≡ Ok tt)
both_ok (Ok done) drifts e = (refl, e)
both_ok (Err first) drifts e = cc

-- the test of true time
pub time-ok : (last : Option Shown) (now : Shown) → (time_verdict last now ≡ Ok tt)
    ↔ IfSome last (λ l. l.time ≤ now.time)
time-ok None now = (λ _. tt, λ _. refl)
time-ok (Some last) now = by (nat_lt now.time last.time) refl
  where
    by : (t : Bool) → nat_lt now.time last.time ≡ t → (time_verdict (Some last) now ≡ Ok tt) ↔ (last.time ≤ now.time)
    by true g = (λ e. let chosen = rw g at e in cc chosen, λ h. absurd (omega (arith, ltb-true)))
    by false g = (λ _. omega (arith, ltb-false), λ _. rw g refl)

-- true time isn't below that of any line
pub times-below : (error : ℕ) (told : List Told) (time : ℕ) → IsAccepted error told
    → IfSome (last_shown told) (λ l. l.time ≤ time)
    → All (λ s. s.time ≤ time) (all_shown told)
times-below error [] time accepted last = All-nil (λ s. s.time ≤ time)
times-below error (Slept ∷ older) time accepted last = times-below error older time accepted last
times-below error (Showed now ∷ older) time accepted last =
    let before =
    (time-ok (last_shown older) now).0
    (both_ok (time_verdict (last_shown older) now) (drift_verdict error (worst error (shown_lately older) now) now)
    accepted.1).0 in
    All-cons (λ s. s.time ≤ time) now (all_shown older) last
    (All-weaker (λ s. s.time ≤ now.time) (λ s. s.time ≤ time) (λ s h. omega arith) (all_shown older)
    (times-below error older now.time accepted.2 before))

-- what was shown lately was shown
pub all-lately : (P : Shown → Type 0) (told : List Told) → All P (all_shown told) → All P (shown_lately told)
all-lately P [] h = h
all-lately P (Slept ∷ older) h = All-nil P
all-lately P (Showed now ∷ older) h =
    All-cons P now (shown_lately older) (All-head P now (all_shown older) h)
    (all-lately P older (All-tail P now (all_shown older) h))

-- a worst line's excess bounds each other one
least-bound : (f : Shown → ℤ) (xs : List Shown) (w : Shown) → IsLeast f xs w → All (λ s. f w ≤ℤ f s) xs
least-bound f xs w least =
    rw least.is_among (All-append (λ s. f w ≤ℤ f s) least.newer (w ∷ least.older) least.newer_no_less
    (All-cons (λ s. f w ≤ℤ f s) w least.older (omega (arith, ints))
    (All-weaker (λ s. f w <ℤ f s) (λ s. f w ≤ℤ f s) (λ s h. omega (arith, ints)) least.older least.older_greater)))

-- the worst line is one of them
least-holds : (P : Shown → Type 0) (f : Shown → ℤ) (xs : List Shown) (w : Shown) → IsLeast f xs w → All P xs → P w
least-holds P f xs w least h = behind least.newer (rw least.is_among at h)
  where
    behind : (newer : List Shown) → All P (newer ++ w ∷ least.older) → P w
    behind [] h = All-head P w least.older h
    behind (s ∷ newer) h = behind newer (All-tail P s (newer ++ w ∷ least.older) h)

-- the test of the drift, where true time doesn't fall
drift-ok : (error : ℕ) (xs : List Shown) (now : Shown) (w : Option Shown) → All (λ s. s.time ≤ now.time) xs
    → MatchOption w (xs ≡ []) (IsLeast (λ s. neg_ℤ (excess error s now)) xs)
    → (drift_verdict error w now ≡ Ok tt) ↔ All (λ s. Keeps error s now) xs
drift-ok error xs now None times least = (λ _. rw least (All-nil (λ s. Keeps error s now)), λ _. refl)
drift-ok error xs now (Some w) times least = by (int_lt (pos 0) (excess error w now)) refl
  where
    kept : excess error w now ≤ℤ pos 0 → All (λ s. Keeps error s now) xs
    kept h = λ k d within.
        let bound = least-bound (λ s. neg_ℤ (excess error s now)) xs w least k d within in
        (excess-keeps error (slice_index_or xs k d) now (times k d within)).0 (omega (arith, ints))

    by : (t : Bool) → int_lt (pos 0) (excess error w now) ≡ t → (drift_verdict error (Some w) now ≡ Ok tt)
        ↔ All (λ s. Keeps error s now) xs
    by true g = (
      λ e. let chosen = rw g at e in cc chosen,
      λ h.
          let later : w.time ≤ now.time =
          least-holds (λ s. s.time ≤ now.time) (λ s. neg_ℤ (excess error s now)) xs w least times in
          let none =
          (excess-keeps error w now later).1
          (least-holds (λ s. Keeps error s now) (λ s. neg_ℤ (excess error s now)) xs w least h) in
          absurd (omega (arith, ints, g)),
    )
    by false g = (λ _. kept (omega (arith, ints, g)), λ _. rw g refl)

-- both tests are passed
ok-of_both : (times drifts : Result (Unit {0}) DriftFault) → times ≡ Ok tt → drifts ≡ Ok tt
    → result_and times drifts ≡ Ok tt
ok-of_both times drifts e f = rw e f

-- the law
pub accepts_exactly : AcceptsExactly
accepts_exactly error told now accepted =
    let times = time_verdict (last_shown told) now in
    let drifts = drift_verdict error (worst error (shown_lately told) now) now in
    let by_time = time-ok (last_shown told) now in
    let by_drift = λ (last : IfSome (last_shown told) (λ l. l.time ≤ now.time)).
    drift-ok error (shown_lately told) now (worst error (shown_lately told) now)
    (all-lately (λ s. s.time ≤ now.time) told (times-below error told now.time accepted last))
    (least_by-least (λ s. neg_ℤ (excess error s now)) (shown_lately told)) in (
      λ e. let both = both_ok times drifts e in let last = by_time.0 both.0 in (last, (by_drift last).0 both.1),
      λ h. ok-of_both times drifts (by_time.1 h.0) ((by_drift h.0).1 h.1),
    )

-- ---- pairs of accepted lines
-- the law
pub accepted_keeps : AcceptedKeeps
accepted_keeps error [] accepted = tt
accepted_keeps error (Slept ∷ older) accepted = accepted_keeps error older accepted
accepted_keeps error (Showed now ∷ older) accepted =
    let kept = (accepts_exactly error older now accepted.2).0 accepted.1 in
    (times-below error older now.time accepted.2 kept.0, kept.1, accepted_keeps error older accepted.2)

-- of two lines one is the earlier, and the oscillator keeps its error from it to the other
pub data KeepEither (error : ℕ) (a b : Shown) : Type 0 where
  First : (later : a.time ≤ b.time) → (keeps : Keeps error a b) → KeepEither error a b
  Second : (later : b.time ≤ a.time) → (keeps : Keeps error b a) → KeepEither error a b

-- so it is of any two lines since the last sleep
pub either-lately : (error : ℕ) (told : List Told) → EachPair error told
    → All (λ a. All (KeepEither error a) (shown_lately told)) (shown_lately told)
either-lately error [] pairs = All-nil (λ a. All (KeepEither error a) [])
either-lately error (Slept ∷ older) pairs = All-nil (λ a. All (KeepEither error a) [])
either-lately error (Showed now ∷ older) pairs =
    let xs = shown_lately older in
    let times = all-lately (λ s. s.time ≤ now.time) older pairs.0 in
    let behind = either-lately error older pairs.2 in
    All-cons (λ a. All (KeepEither error a) (now ∷ xs)) now xs
    (All-cons (KeepEither error now) now xs (First (omega arith) (omega arith, omega arith)) (λ k d within.
    Second (times k d within) (pairs.1 k d within)))
    (λ k d within.
    All-cons (KeepEither error (slice_index_or xs k d)) now xs (First (times k d within) (pairs.1 k d within))
    (behind k d within))

-- the pairs of what was told before
pairs-older : (error : ℕ) (newer older : List Told) → EachPair error (newer ++ older) → EachPair error older
pairs-older error [] older h = h
pairs-older error (Slept ∷ newer) older h = pairs-older error newer older h
pairs-older error (Showed s ∷ newer) older h = pairs-older error newer older h.2

-- an earlier line is among all lines
shown-among : (P : Shown → Type 0) (middle older : List Told) (earlier : Shown)
    → All P (all_shown (middle ++ Showed earlier ∷ older)) → P earlier
shown-among P [] older earlier h = All-head P earlier (all_shown older) h
shown-among P (Slept ∷ middle) older earlier h = shown-among P middle older earlier h
shown-among P (Showed s ∷ middle) older earlier h =
    shown-among P middle older earlier (All-tail P s (all_shown (middle ++ Showed earlier ∷ older)) h)

-- and among those since the last sleep, with no sleep between
lately-among : (P : Shown → Type 0) (middle older : List Told) (earlier : Shown) → NoSleep middle
    → All P (shown_lately (middle ++ Showed earlier ∷ older)) → P earlier
lately-among P [] older earlier awake h = All-head P earlier (shown_lately older) h
lately-among P (Slept ∷ middle) older earlier awake h = absurd awake
lately-among P (Showed s ∷ middle) older earlier awake h =
    lately-among P middle older earlier awake (All-tail P s (shown_lately (middle ++ Showed earlier ∷ older)) h)

-- the law
pub any_two_keep : AnyTwoKeep
any_two_keep error newer middle older earlier now accepted =
    let told = newer ++ Showed now ∷ (middle ++ Showed earlier ∷ older) in
    let pairs =
    pairs-older error newer (Showed now ∷ (middle ++ Showed earlier ∷ older)) (accepted_keeps error told accepted) in (
      shown-among (λ s. s.time ≤ now.time) middle older earlier pairs.0,
      λ awake. lately-among (λ s. Keeps error s now) middle older earlier awake pairs.1,
    )
