-- The drifts accept the lines, and the lines are a world.
use Rattle.std.proofs.Common.{◌≡◌, ℕ, ◌<◌, ◌≤◌, arith, ap, sym, ◌∙◌, Bool, inl, inr, true, false, List, [], ◌∷◌, length}
use Rattle.std.proofs.Common.{Some}
use Rattle.css_moments.specs.Drifts as drifts
use Rattle.css_moments.specs.Drifts.{Told}
use Rattle.css_moments.proofs.Pairs.{accepted_keeps}
use Rattle.css_meaning.specs.Happened.{Numbered}
use Rattle.css_meaning.specs.Worlds.{world_of, errors_of}
use Rattle.css_meaning.specs.Clocks.{told_with, told_by}
use Rattle.css_meaning.specs.Verdicts.{seen_of_tv, seen_of, local_of}
use Rattle.css_meaning.specs.Accepted.{AreAccepted, IsNext}
use Rattle.css_meaning.proofs.Names.{eqb_tells, Moment, OwnClock, KeepsErrors, is_sleep, Header}
use Rattle.css_meaning.proofs.Worlds.{world-older, world-now, place, tested_ok, tv_shown-ok, own_shown-ok, seen_own}
use Rattle.css_meaning.proofs.Worlds.{seen_other, clock-is, sleeps_order, own_two, tv_two}

-- ---- drifts accept the lines
-- the line's number is above that of the last one shown
next_tv : (number : ℕ) (older : List Numbered) → IsNext number older
    → drifts.IsNext (drifts.last_shown (told_by (seen_of_tv older))) number
next_tv number [] next = tt
next_tv number (last ∷ older) next = next

-- the drift of the wall clock accepts them
tv_accepted : (header : Header) (lines : List Numbered) → AreAccepted header lines
    → drifts.IsAccepted header.tv_error (told_by (seen_of_tv lines))
tv_accepted header [] accepted = tt
tv_accepted header (now ∷ older) accepted = (
  next_tv now.number older accepted.2,
  tv_shown-ok header older now (tested_ok header older now accepted.3.0 accepted.3.1),
  tv_accepted header older accepted.4,
)

-- a number that is next after a line is next after those before it
next_older : (number : ℕ) (last : Numbered) (older : List Numbered) → IsNext last.number older → last.number < number
    → IsNext number older
next_older number last [] next above = tt
next_older number last (first ∷ older) next above = omega (arith, next, above)

-- it is above that of the last line of a companion
pub next_own : (header : Header) (who number : ℕ) (older : List Numbered) → AreAccepted header older
    → IsNext number older → drifts.IsNext (drifts.last_shown (told_by (seen_of who older))) number
next_own header who number [] accepted next = tt
next_own header who number (last ∷ older) accepted next = elim (eqb_tells last.line.who who) [
  | inl own ↦ rw (seen_own last older who own.1) next
  | inr other ↦
      rw (seen_other last older who other.1) (next_own header who number older accepted.4
      (next_older number last older accepted.2 next))
]

-- a sleep before it changes neither
asleep_next : (woke : Bool) (told : List Told) (number : ℕ) → drifts.IsNext (drifts.last_shown told) number
    → drifts.IsNext (drifts.last_shown (told_with woke told)) number
asleep_next true told number next = next
asleep_next false told number next = next

asleep_accepted : (error : ℕ) (woke : Bool) (told : List Told) → drifts.IsAccepted error told
    → drifts.IsAccepted error (told_with woke told)
asleep_accepted error true told accepted = accepted
asleep_accepted error false told accepted = accepted

-- the drift of a companion's clock accepts its lines
own_accepted : (header : Header) (who : ℕ) (lines : List Numbered) → 1 ≤ who → AreAccepted header lines
    → drifts.IsAccepted (local_of who header).error (told_by (seen_of who lines))
own_accepted header who [] first accepted = tt
own_accepted header who (now ∷ older) first accepted = elim (eqb_tells now.line.who who) [
  | inl own ↦
      let error = (local_of who header).error in
      let told = told_by (seen_of who older) in
      let woke = is_sleep now.line.verb in
      rw (seen_own now older who own.1) (
        asleep_next woke told now.number (next_own header who now.number older accepted.4 accepted.2),
        own_shown-ok header older now who first own.1 (tested_ok header older now accepted.3.0 accepted.3.1),
        asleep_accepted error woke told (own_accepted header who older first accepted.4),
      )
  | inr other ↦ rw (seen_other now older who other.1) (own_accepted header who older first accepted.4)
]

-- ---- the world
-- a moment gives the clock of no companion with the number 0
first_of : (who : ℕ) (lines : List Numbered) (i : ℕ) (a : OwnClock) → (world_of lines i).companion who ≡ Some a
    → 1 ≤ who
first_of who [] i a e = absurd (cc)
first_of who (now ∷ older) i a e =
    place i (length older)
    (λ below. first_of who older i a (sym (ap (λ (m : Moment). m.companion who) (world-older now older i below)) ∙ e))
    (λ above.
    (clock-is who a older now (sym (ap (λ (m : Moment). m.companion who) (world-now now older i above)) ∙ e)).first)

-- the world of accepted lines keeps the declared errors
pub keeps_errors : (header : Header) (lines : List Numbered) → AreAccepted header lines
    → KeepsErrors (errors_of header) (world_of lines)
keeps_errors header lines accepted =
    let pairs = accepted_keeps header.tv_error (told_by (seen_of_tv lines)) (tv_accepted header lines accepted) in
    record {
      order = λ i j le. (tv_two header.tv_error lines i j pairs le).0;
      tv = λ i j le. (tv_two header.tv_error lines i j pairs le).1;
      sleeps = λ who i j earlier later le p q. sleeps_order who lines i j earlier later le p q;
      companion = λ who i j earlier later le p q same.
          let first = first_of who lines i earlier p in
          let error = (local_of who header).error in
          let own = accepted_keeps error (told_by (seen_of who lines)) (own_accepted header who lines first accepted) in
          own_two who error lines i j earlier later own le p q same;
    }
