-- The tests of all clocks pass on lines that show them.
use Rattle.std.proofs.Common.{◌≡◌, ℕ, suc, zero, ◌+◌, ◌-◌, ◌<◌, ◌≤◌, arith, subst, refl, Bool, true, false, cond, List}
use Rattle.std.proofs.Common.{◌∷◌, ◌==◌, eqb-true, Option, Some, None, IfSome, Result, Ok, replicate, slice_get}
use Rattle.css_model.specs.Numbers.{precision_ns}
use Rattle.css_moments.specs.Drifts.{Shown, last_shown}
use Rattle.css_meaning.specs.Clocks.{Seen, told_by, clock_verdict, last_reading, has_woken, reading_verdict}
use Rattle.css_meaning.proofs.Worlds.{seen_own, seen_other}
use Rattle.css_gen.specs.Course.{clock}
use Rattle.css_survey.specs.Generated.{header_for}
use Rattle.css_survey.proofs.Names.{eqb-false, WorldFault, Numbered, local_of, tv_seen, own_seen, seen_of_tv, seen_of}
use Rattle.css_survey.proofs.Names.{tv_reading, own_reading, own_shown_tested, shown_tested, reading_tested, companion}
use Rattle.css_survey.proofs.Watched.{IsSeen, AreSeen, all-later, clock-ok, seen_next, reading-ok, both-ok}

-- ---- the header
pub get-replicate : {A : Type 0} (n i : ℕ) (x : A) → i < n → slice_get (replicate n x) i ≡ Some x
get-replicate zero i x below = absurd (omega (arith, below))
get-replicate (suc n) zero x below = refl
get-replicate (suc n) (suc i) x below = get-replicate n i x (omega (arith, below))

-- what each companion takes its clock for
local-for : (companions who : ℕ) → 1 ≤ who → who ≤ companions
    → local_of who (header_for companions) ≡ record { error = 12800; precision = 1000 }
local-for companions who first within = simp (get-replicate companions (who - 1) companion
    (omega (arith, first, within)))

-- ---- what was seen
-- what was seen by a line was seen by a later one
seen-later : (fast : Bool) (time time' number number' : ℕ) (seen : List Seen) → time ≤ time' → number ≤ number'
    → AreSeen fast time number seen → AreSeen fast time' number' seen
seen-later fast time time' number number' seen later after h = record {
  each = all-later fast time time' later seen h.each;
  accepted = h.accepted;
  last = by (last_shown (told_by seen)) h.last;
}
  where
    by : (last : Option Shown) → IfSome last (λ shown. shown.line < number)
        → IfSome last (λ shown. shown.line < number')
    by None low = tt
    by (Some shown) low = omega (arith, low, after)

-- The oscillators of all companions, by their numbers.
abbrev pub Oscillators : Type 0
Oscillators = ℕ → Bool

-- what was seen of all clocks up to a true time and the number of a line
pub record AllSeen (tv_fast : Bool) (fast : Oscillators) (time number : ℕ) (lines : List Numbered) : Type 0 where
  pub tv : AreSeen tv_fast time number (seen_of_tv lines)
  pub own : (who : ℕ) → 1 ≤ who → AreSeen (fast who) time number (seen_of who lines)

-- A line shows what the clocks do, and so it reads them. It gives a companion's clock where it is of a companion.
pub record IsShown (companions : ℕ) (tv_fast : Bool) (fast : Oscillators) (now : Numbered) : Type 0 where
  pub few : now.line.who ≤ companions
  pub tv : now.line.w ≡ clock tv_fast now.line.t
  pub own : 1 ≤ now.line.who → now.line.l ≡ clock (fast now.line.who) now.line.t
  pub tv_reads : IfSome (tv_reading now.line.verb) (λ reading. reading ≡ now.line.w)
  pub own_reads : IfSome (own_reading now.line.verb) (λ reading. reading ≡ now.line.l)
  pub none : now.line.who ≡ 0 → own_reading now.line.verb ≡ None

module _ (companions : ℕ) (tv_fast : Bool) (fast : Oscillators) (time number : ℕ) (lines : List Numbered)
    (h : AllSeen tv_fast fast time number lines) (now : Numbered) (later : time ≤ now.line.t)
    (shown : IsShown companions tv_fast fast now) where
  tv-seen : IsSeen tv_fast now.line.t (tv_seen now)
  tv-seen = record { before = omega arith; shows = shown.tv; reads = shown.tv_reads }

  own-seen : 1 ≤ now.line.who → IsSeen (fast now.line.who) now.line.t (own_seen now)
  own-seen some = record { before = omega arith; shows = shown.own some; reads = shown.own_reads }

  -- what the clocks show passes
  pub shown-ok : shown_tested (header_for companions) lines now ≡ Ok tt
  shown-ok =
      both-ok (clock_verdict 12800 (seen_of_tv lines) (tv_seen now))
      (own_shown_tested (header_for companions) lines now)
      (clock-ok tv_fast time number (seen_of_tv lines) (tv_seen now) h.tv later tv-seen) (by (now.line.who == 0) refl)
    where
      by : (b : Bool) → (now.line.who == 0) ≡ b
          → cond b (Ok tt) (clock_verdict (local_of now.line.who (header_for companions)).error
          (seen_of now.line.who lines) (own_seen now)) ≡ Ok tt
      by true e = refl
      by false e =
          let some : 1 ≤ now.line.who = omega (arith, eqb-false now.line.who 0 e) in
          simp (local-for companions now.line.who some shown.few) (clock-ok (fast now.line.who) time number
          (seen_of now.line.who lines) (own_seen now) (h.own now.line.who some) later (own-seen some))

  -- the verdict on a reading of its companion's clock
  abbrev own_read : Result (Unit {0}) WorldFault
  own_read =
      reading_verdict now.number (local_of now.line.who (header_for companions)).precision now.line.l
      (has_woken (seen_of now.line.who lines)) (last_reading (seen_of now.line.who lines))
      (own_reading now.line.verb)

  -- so do the readings, where some time has passed
  pub reads-ok : time + 30000 ≤ now.line.t → reading_tested (header_for companions) lines now ≡ Ok tt
  reads-ok late =
      both-ok (reading_verdict now.number (precision_ns (header_for companions).tv_precision) now.line.w false
      (last_reading (seen_of_tv lines)) (tv_reading now.line.verb)) own_read
      (reading-ok tv_fast time number (seen_of_tv lines) (tv_seen now)
      (precision_ns (header_for companions).tv_precision) false h.tv late tv-seen)
      (by (now.line.who == 0) refl)
    where
      by : (b : Bool) → (now.line.who == 0) ≡ b → own_read ≡ Ok tt
      by true e = simp (shown.none (eqb-true now.line.who 0 e))
      by false e =
          let some : 1 ≤ now.line.who = omega (arith, eqb-false now.line.who 0 e) in
          reading-ok (fast now.line.who) time number (seen_of now.line.who lines) (own_seen now)
          (local_of now.line.who (header_for companions)).precision (has_woken (seen_of now.line.who lines))
          (h.own now.line.who some) late (own-seen some)

  -- and the line is seen with those before it
  pub all-seen : now.number ≡ number → AllSeen tv_fast fast now.line.t (number + 1) (now ∷ lines)
  all-seen is = record {
    tv = seen_next tv_fast time number (seen_of_tv lines) (tv_seen now) h.tv later is tv-seen;
    own = λ other some. by other some (now.line.who == other) refl;
  }
    where
      by : (other : ℕ) → 1 ≤ other → (b : Bool) → (now.line.who == other) ≡ b
          → AreSeen (fast other) now.line.t (number + 1) (seen_of other (now ∷ lines))
      by other some true e =
          let same = eqb-true now.line.who other e in
          rw (seen_own now lines other same) (seen_next (fast other) time number (seen_of other lines) (own_seen now)
          (h.own other some) later is
          (subst (λ n. IsSeen (fast n) now.line.t (own_seen now)) same (own-seen (omega (arith, same, some)))))
      by other some false e =
          rw (seen_other now lines other (eqb-false now.line.who other e))
          (seen-later (fast other) time now.line.t number (number + 1) (seen_of other lines) later (omega arith)
          (h.own other some))
