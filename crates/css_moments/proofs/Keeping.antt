-- What a drift keeps stays what it stands for, as lines are added.
use Rattle.std.proofs.Common.{◌≡◌, ℕ, ◌<◌, ◌≤◌, ◌∙◌, sym, ap, refl, arith, Bool, true, false, List, [], ◌∷◌}
use Rattle.std.specs.Prelude.{ℤ, int_lt, All, Option, Some, None, Result, Ok, Err}
use Rattle.std.specs.Option.{option_map, ForSome}
use Rattle.std.specs.Result.{result_and}
use Rattle.std.proofs.lemmas.List.Elements.{All-nil, All-cons, All-weaker}
use Rattle.css_model.specs.WallClock.{least_by}
use Rattle.css_model.specs.WallClock as wall_clock
use Rattle.css_moments.specs.declared.fault.DriftFault.{DriftFault}
use Rattle.css_moments.specs.declared.kept.Extremes.{Extremes}
use Rattle.css_moments.specs.declared.kept.Last.{Last}
use Rattle.css_moments.specs.declared.kept.Least.{Least}
use Rattle.css_moments.specs.Drifts.{Shown, Told, Showed, Slept, last_shown, shown_lately, worst, time_verdict}
use Rattle.css_moments.specs.Drifts.{drift_verdict, verdict, IsNext, IsAccepted}
use Rattle.css_moments.specs.Numbers.{lead, lag}
use Rattle.css_moments.specs.Steps.{extremes_at, lesser, after, test_time, test_drift}
use Rattle.css_moments.specs.Standing.{Drift, last_of, first_least, StandsFor}
use Rattle.css_moments.proofs.Worst.{LinesRise}
use Rattle.css_moments.proofs.Pairs.{time-ok, times-below, all-lately, either-lately, accepted_keeps}
use Rattle.css_moments.proofs.Verdicts.{time_verdict-kept, drift_verdict-kept}

-- a line after the last one comes after all of them
lines-below : (error : ℕ) (told : List Told) (line : ℕ) → IsAccepted error told → IsNext (last_shown told) line
    → All (λ s. s.line < line) (shown_lately told)
lines-below error [] line accepted next = All-nil (λ s. s.line < line)
lines-below error (Slept ∷ older) line accepted next = All-nil (λ s. s.line < line)
lines-below error (Showed shown ∷ older) line accepted next =
    All-cons (λ s. s.line < line) shown (shown_lately older) next
    (All-weaker (λ s. s.line < shown.line) (λ s. s.line < line) (λ s h. omega arith) (shown_lately older)
    (lines-below error older shown.line accepted.2 accepted.0))

-- accepted lines rise
pub lines-rise : (error : ℕ) (told : List Told) → IsAccepted error told → LinesRise (shown_lately told)
lines-rise error [] accepted = tt
lines-rise error (Slept ∷ older) accepted = tt
lines-rise error (Showed shown ∷ older) accepted =
    (lines-below error older shown.line accepted.2 accepted.0, lines-rise error older accepted.2)

-- the verdict is that of the tests
pub verdict-kept : (drift : Drift) (told : List Told) (now : Shown) → StandsFor drift told
    → verdict drift.error told now ≡ result_and (test_time drift.last now.time)
    (test_drift drift.lately (extremes_at drift.error now.line now.time now.value))
verdict-kept drift told now stands = by (time_verdict (last_shown told) now) refl
  where
    drifts : Result (Unit {0}) DriftFault
    drifts = drift_verdict drift.error (worst drift.error (shown_lately told) now) now

    tests : Result (Unit {0}) DriftFault
    tests = test_drift drift.lately (extremes_at drift.error now.line now.time now.value)

    times : time_verdict (last_shown told) now ≡ test_time drift.last now.time
    times = time_verdict-kept (last_shown told) now ∙ ap (λ (l : Option Last). test_time l now.time) (sym stands.last)

    -- where true time doesn't fall, the two tests of the drift agree
    same_drifts : time_verdict (last_shown told) now ≡ Ok tt → drifts ≡ tests
    same_drifts e =
        let before = (time-ok (last_shown told) now).0 e in
        drift_verdict-kept drift.error (shown_lately told) drift.lately now
        (lines-rise drift.error told stands.accepted)
        (all-lately (λ s. s.time ≤ now.time) told (times-below drift.error told now.time stands.accepted before))
        (either-lately drift.error told (accepted_keeps drift.error told stands.accepted)) stands.lead stands.lag

    by : (first : Result (Unit {0}) DriftFault) → time_verdict (last_shown told) now ≡ first
        → verdict drift.error told now ≡ result_and (test_time drift.last now.time) tests
    by (Ok done) e =
        ap (λ (r : Result (Unit {0}) DriftFault). result_and r drifts) times
        ∙ ap (λ (r : Result (Unit {0}) DriftFault). result_and (test_time drift.last now.time) r) (same_drifts e)
    by (Err fault) e =
        ap (λ (r : Result (Unit {0}) DriftFault). result_and r drifts) e
        ∙ sym (ap (λ (r : Result (Unit {0}) DriftFault). result_and r tests) (sym times ∙ e))

-- the least number that is kept, with that of one more line
abbrev with_least : Option Least → Least → Least
with_least None now = now
with_least (Some earlier) now = lesser earlier now

-- it is the least number of all lines
first_least-added : (number : Shown → ℤ) (xs : List Shown) (now : Shown) (kept : Option Least)
    → kept ≡ first_least number xs
    → first_least number (now ∷ xs) ≡ Some (with_least kept (record { line = now.line; value = number now }))
first_least-added number xs now kept e =
    by (least_by number xs) refl ∙ ap (λ (k : Option Least). Some (with_least k (least_of now))) (sym e)
  where
    least_of : Shown → Least
    least_of s = record { line = s.line; value = number s }

    choose : (y : Shown) (t : Bool) → int_lt (number now) (number y) ≡ t
        → option_map least_of (wall_clock.lesser number now (Some y)) ≡ Some (lesser (least_of y) (least_of now))
    choose y true g = rw g refl
    choose y false g = rw g refl

    by : (o : Option Shown) → least_by number xs ≡ o
        → option_map least_of (wall_clock.lesser number now o) ≡ Some
        (with_least (option_map least_of o) (least_of now))
    by None o = refl
    by (Some y) o = choose y (int_lt (number now) (number y)) refl

-- one part of what is kept, with one more line
lead-after : (lately : Option Extremes) (now : Extremes)
    → option_map (λ e. e.lead) (Some (after lately now)) ≡ Some (with_least (option_map (λ e. e.lead) lately) now.lead)
lead-after None now = refl
lead-after (Some e) now = refl

-- and the other
lag-after : (lately : Option Extremes) (now : Extremes)
    → option_map (λ e. e.lag) (Some (after lately now)) ≡ Some (with_least (option_map (λ e. e.lag) lately) now.lag)
lag-after None now = refl
lag-after (Some e) now = refl

-- the line comes after the last one that is kept
next-kept : (last : Option Shown) (kept : Option Last) (line : ℕ) → kept ≡ option_map last_of last
    → ForSome kept (λ l. l.line < line) → IsNext last line
next-kept None kept line e h = tt
next-kept (Some s) kept line e h = h (last_of s) e

-- an accepted line is added
pub stands-added : (drift : Drift) (told : List Told) (now : Shown) → StandsFor drift told
    → ForSome drift.last (λ l. l.line < now.line)
    → verdict drift.error told now ≡ Ok tt
    → StandsFor (record {
      error = drift.error;
      last = Some (last_of now);
      lately =
          Some (after drift.lately (extremes_at drift.error now.line now.time now.value));
    }) (Showed now ∷ told)
stands-added drift told now stands next ok = record {
  accepted = (next-kept (last_shown told) drift.last now.line stands.last next, ok, stands.accepted);
  last = refl;
  lead = lead-after drift.lately (extremes_at drift.error now.line now.time now.value)
      ∙ sym
      (first_least-added (λ s. lead drift.error s.time s.value) (shown_lately told) now
      (option_map (λ e. e.lead) drift.lately) stands.lead);
  lag = lag-after drift.lately (extremes_at drift.error now.line now.time now.value)
      ∙ sym
      (first_least-added (λ s. lag drift.error s.time s.value) (shown_lately told) now
      (option_map (λ e. e.lag) drift.lately) stands.lag);
}
