-- The tests of a clock pass on lines that show it as the generator does.
use Rattle.std.proofs.Common.{◌≡◌, ℕ, ◌+◌, ◌<◌, ◌≤◌, arith, ap, sym, subst, ◌∙◌, refl, Bool, true, false, List, [], ◌∷◌}
use Rattle.std.specs.Prelude.{Option, Some, None, IfSome, Result, Ok, All}
use Rattle.css_moments.specs.Drifts.{Shown, Told, Keeps, verdict, last_shown, shown_lately, IsAccepted, IsNext}
use Rattle.css_moments.proofs.Pairs.{accepts_exactly}
use Rattle.css_meaning.specs.declared.reading.Reading.{Reading}
use Rattle.css_meaning.specs.Clocks.{Seen, shown_at, told_with, told_by, broken_by, clock_verdict, last_reading}
use Rattle.css_meaning.specs.Clocks.{near_verdict, order_verdict, reading_verdict}
use Rattle.css_gen.specs.Course.{clock}
use Rattle.css_survey.proofs.Names.{result_and, result_map_both, nat_tests, All-nil, All-cons, All-head, All-tail}
use Rattle.css_survey.proofs.Names.{All-weaker, WorldFault, clock-keeps, clock-rises, clock-goes_on}

-- What a line tells of a clock: it shows what this clock shows, at a true time no later than this one, and a reading is
-- what it shows.
pub record IsSeen (fast : Bool) (time : ℕ) (seen : Seen) : Type 0 where
  pub before : seen.time ≤ time
  pub shows : seen.shown ≡ clock fast seen.time
  pub reads : IfSome seen.reading (λ reading. reading ≡ seen.shown)

-- what lines tell of a clock, up to a true time and the number of a line
pub record AreSeen (fast : Bool) (time number : ℕ) (seen : List Seen) : Type 0 where
  pub each : All (IsSeen fast time) seen
  pub accepted : IsAccepted 12800 (told_by seen)
  pub last : IfSome (last_shown (told_by seen)) (λ shown. shown.line < number)

-- lines that were seen by then were seen by a later time
pub all-later : (fast : Bool) (time time' : ℕ) → time ≤ time' → (seen : List Seen) → All (IsSeen fast time) seen
    → All (IsSeen fast time') seen
all-later fast time time' later seen h =
    All-weaker (IsSeen fast time) (IsSeen fast time')
    (λ s is. record { before = omega (arith, is.before, later); shows = is.shows; reads = is.reads }) seen h

-- the clock keeps its error from a line that was seen to a later one
seen_keeps : (fast : Bool) (earlier now : Seen) → IsSeen fast now.time earlier → IsSeen fast now.time now
    → Keeps 12800 (shown_at earlier) (shown_at now)
seen_keeps fast earlier now h h' =
    let kept = clock-keeps fast earlier.time now.time h.before in
    rw (h.shows, h'.shows) kept

-- ---- sleeps
-- what was shown since a sleep keeps what it kept
lately-with : (P : Shown → Type 0) (woke : Bool) (told : List Told) → All P (shown_lately told)
    → All P (shown_lately (told_with woke told))
lately-with P true told all = All-nil P
lately-with P false told all = all

-- the last line stays the last one
last-with : (woke : Bool) (told : List Told) → last_shown (told_with woke told) ≡ last_shown told
last-with true told = refl
last-with false told = refl

-- and what was accepted stays so
accepted-with : (woke : Bool) (told : List Told) → IsAccepted 12800 told → IsAccepted 12800 (told_with woke told)
accepted-with true told accepted = accepted
accepted-with false told accepted = accepted

-- ---- clocks
-- the clock keeps its error from each of them
all-keep : (fast : Bool) (now : Seen) → IsSeen fast now.time now → (seen : List Seen) → All (IsSeen fast now.time) seen
    → All (λ earlier. Keeps 12800 earlier (shown_at now)) (shown_lately (told_by seen))
all-keep fast now h [] all = All-nil (λ earlier. Keeps 12800 earlier (shown_at now))
all-keep fast now h (s ∷ seen) all =
    let Kept : Shown → Type 0 = λ earlier. Keeps 12800 earlier (shown_at now) in
    All-cons Kept (shown_at s) (shown_lately (told_with s.woke (told_by seen)))
    (seen_keeps fast s now (All-head (IsSeen fast now.time) s seen all) h)
    (lately-with Kept s.woke (told_by seen) (all-keep fast now h seen (All-tail (IsSeen fast now.time) s seen all)))

-- the last line isn't later
last-before : (fast : Bool) (time : ℕ) (seen : List Seen) → All (IsSeen fast time) seen
    → IfSome (last_shown (told_by seen)) (λ last. last.time ≤ time)
last-before fast time [] all = tt
last-before fast time (s ∷ seen) all = (All-head (IsSeen fast time) s seen all).before

-- the drift accepts the next line
drift-ok : (fast : Bool) (now : Seen) → IsSeen fast now.time now → (seen : List Seen)
    → All (IsSeen fast now.time) seen → IsAccepted 12800 (told_by seen)
    → verdict 12800 (told_with now.woke (told_by seen)) (shown_at now) ≡ Ok tt
drift-ok fast now h seen all accepted =
    let told = told_with now.woke (told_by seen) in
    (accepts_exactly 12800 told (shown_at now) (accepted-with now.woke (told_by seen) accepted)).1 (
      subst (λ (o : Option Shown). IfSome o (λ last. last.time ≤ now.time)) (sym (last-with now.woke (told_by seen)))
          (last-before fast now.time seen all),
      lately-with (λ earlier. Keeps 12800 earlier (shown_at now)) now.woke (told_by seen)
          (all-keep fast now h seen all),
    )

-- so the world does
pub clock-ok : (fast : Bool) (time number : ℕ) (seen : List Seen) (now : Seen) → AreSeen fast time number seen
    → time ≤ now.time → IsSeen fast now.time now → clock_verdict 12800 seen now ≡ Ok tt
clock-ok fast time number seen now h later this =
    ap (result_map_both (λ x. x) broken_by)
    (drift-ok fast now this seen (all-later fast time now.time later seen h.each) h.accepted)

-- and the line is seen with the others
pub seen_next : (fast : Bool) (time number : ℕ) (seen : List Seen) (now : Seen) → AreSeen fast time number seen
    → time ≤ now.time → now.number ≡ number → IsSeen fast now.time now → AreSeen fast now.time (number + 1) (now ∷ seen)
seen_next fast time number seen now h later is this =
    let all = all-later fast time now.time later seen h.each in
    record {
      each = All-cons (IsSeen fast now.time) now seen this all;
      accepted = (
        subst (λ (o : Option Shown). IsNext o now.number) (sym (last-with now.woke (told_by seen)))
            (subst (λ n. IsNext (last_shown (told_by seen)) n) (sym is) h.last),
        drift-ok fast now this seen all h.accepted,
        accepted-with now.woke (told_by seen) h.accepted,
      );
      last = omega (arith, is);
    }

-- ---- readings
-- the last reading isn't above what the clock shows
last-low : (fast : Bool) (time : ℕ) (seen : List Seen) → All (IsSeen fast time) seen
    → IfSome (last_reading seen) (λ last. last.value ≤ clock fast time)
last-low fast time [] all = tt
last-low fast time (s ∷ seen) all =
    by s.reading (All-head (IsSeen fast time) s seen all).reads
    (last-low fast time seen (All-tail (IsSeen fast time) s seen all))
  where
    by : (reading : Option ℕ) → IfSome reading (λ r. r ≡ s.shown)
        → IfSome (last_reading seen) (λ last. last.value ≤ clock fast time)
        → IfSome (last_reading (record s { reading = reading } ∷ seen)) (λ last. last.value ≤ clock fast time)
    by None e older = older
    by (Some reading) e older =
        let h = All-head (IsSeen fast time) s seen all in
        omega (arith, e, h.shows, clock-rises fast s.time time h.before)

-- a reading of what is shown is near it
near-ok : (number precision shown reading : ℕ) → reading ≡ shown → near_verdict number precision shown reading ≡ Ok tt
near-ok number precision shown reading e = grind (arith, nat_tests)

-- above the last one it is in order, also where the end slept between
order-ok : (woken : Bool) (last : Option Reading) (reading : ℕ) → IfSome last (λ l. l.value < reading)
    → order_verdict woken last reading ≡ Ok tt
order-ok woken None reading low = refl
order-ok woken (Some last) reading low = grind (arith, nat_tests)

pub both-ok : (a b : Result (Unit {0}) WorldFault) → a ≡ Ok tt → b ≡ Ok tt → result_and a b ≡ Ok tt
both-ok a b e e' = ap (λ r. result_and r b) e ∙ e'

reading-by : (number precision shown : ℕ) (woken : Bool) (last : Option Reading) (reading : Option ℕ)
    → IfSome last (λ l. l.value < shown) → IfSome reading (λ r. r ≡ shown)
    → reading_verdict number precision shown woken last reading ≡ Ok tt
reading-by number precision shown woken last None low e = refl
reading-by number precision shown woken last (Some reading) low e =
    both-ok (near_verdict number precision shown reading) (order_verdict woken last reading)
    (near-ok number precision shown reading e) (order-ok woken last reading (rw e low))

-- a later value of the clock is above the last reading
above-last : (last : Option Reading) (low high : ℕ) → low < high → IfSome last (λ l. l.value ≤ low)
    → IfSome last (λ l. l.value < high)
above-last None low high above e = tt
above-last (Some last) low high above e = omega (arith, above, e)

-- a reading of the next line passes
pub reading-ok : (fast : Bool) (time number : ℕ) (seen : List Seen) (now : Seen) (precision : ℕ) (woken : Bool)
    → AreSeen fast time number seen → time + 30000 ≤ now.time → IsSeen fast now.time now
    → reading_verdict now.number precision now.shown woken (last_reading seen) now.reading ≡ Ok tt
reading-ok fast time number seen now precision woken h later this =
    let low = last-low fast time seen h.each in
    let above : clock fast time < now.shown =
    subst (λ (v : ℕ). clock fast time < v) (sym this.shows) (clock-goes_on fast time now.time later) in
    reading-by now.number precision now.shown woken (last_reading seen) now.reading
    (above-last (last_reading seen) (clock fast time) now.shown above low) this.reads
