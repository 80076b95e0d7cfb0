-- What lines tell of clocks and say that the ends did, with their numbers raised by one.
use Rattle.std.proofs.Common.{◌≡◌, ℕ, ◌+◌, refl, arith, Bool, false, List, [], ◌∷◌}
use Rattle.std.specs.Prelude.{Option, Some, None, map, ℤ, neg_ℤ, Result, Ok, Err}
use Rattle.std.specs.Option.{option_map, option_or}
use Rattle.css_model.specs.WallClock.{lesser}
use Rattle.css_moments.specs.Drifts.{Shown, Told, Showed, Slept, last_shown, shown_lately, excess, worst, time_verdict}
use Rattle.css_moments.specs.Drifts.{drift_verdict, verdict}
use Rattle.css_moments.specs.declared.fault.DriftFault.{DriftFault}
use Rattle.css_moments.specs.declared.fault.DriftFault.TheVariants as drifts
use Rattle.css_model.specs.Numbers.{precision_ns}
use Rattle.css_meaning.specs.Verdicts.{local_of, tv_reading, own_reading, own_shown_tested, shown_tested}
use Rattle.css_meaning.specs.Verdicts.{reading_tested, tested, tv_seen, own_seen, seen_of_tv, seen_of}
use Rattle.css_meaning.specs.Clocks.{Seen, shown_at, told_with, told_by, broken_by, clock_verdict, last_reading}
use Rattle.css_meaning.specs.Clocks.{has_woken, near_verdict, order_verdict, reading_verdict}
use Rattle.css_meaning.specs.declared.reading.Reading.{Reading}
use Rattle.css_laws.specs.Numbers.{raised_line, raised_lines, raised_fault}
use Rattle.css_laws.proofs.Names.{result_and, result_map_both, Header, Numbered, requests, askers, tickets, taken_for}
use Rattle.css_laws.proofs.Names.{datagrams, made_for, is_given, ends_of, WorldFault}

-- ---- what is told
abbrev raised_seen : Seen → Seen
raised_seen seen = record seen { number = seen.number + 1 }

abbrev raised_shown : Shown → Shown
raised_shown shown = record shown { line = shown.line + 1 }

abbrev raised_told : Told → Told
raised_told (Showed shown) = Showed (raised_shown shown)
raised_told Slept = Slept

abbrev raised_drift : DriftFault → DriftFault
raised_drift (drifts.Broken earlier excess) = drifts.Broken (earlier + 1) excess

abbrev raised_reading : Reading → Reading
raised_reading reading = record reading { line = reading.line + 1 }

-- a result whose fault is told with the earlier line's number raised by one
abbrev pub raised_test : Result (Unit {0}) WorldFault → Result (Unit {0}) WorldFault
raised_test result = result_map_both (λ x. x) raised_fault result

-- of the wall clock
seen_of_tv-raised : (lines : List Numbered) → seen_of_tv (raised_lines lines) ≡ map raised_seen (seen_of_tv lines)
seen_of_tv-raised [] = refl
seen_of_tv-raised (now ∷ older) = simp (seen_of_tv-raised older)

-- of a companion's clock
seen_of-raised : (who : ℕ) (lines : List Numbered)
    → seen_of who (raised_lines lines) ≡ map raised_seen (seen_of who lines)
seen_of-raised who [] = refl
seen_of-raised who (now ∷ older) = grind (arith, seen_of-raised who older)

-- what a drift is told
told_with-raised : (woke : Bool) (told : List Told) → told_with woke (map raised_told told)
    ≡ map raised_told (told_with woke told)
told_with-raised woke told = grind arith

told_by-raised : (seen : List Seen) → told_by (map raised_seen seen) ≡ map raised_told (told_by seen)
told_by-raised [] = refl
told_by-raised (now ∷ older) = simp (told_by-raised older, told_with-raised now.woke (told_by older))

-- ---- the drift
last_shown-raised : (told : List Told) → last_shown (map raised_told told)
    ≡ option_map raised_shown (last_shown told)
last_shown-raised [] = refl
last_shown-raised (Showed shown ∷ older) = refl
last_shown-raised (Slept ∷ older) = last_shown-raised older

shown_lately-raised : (told : List Told) → shown_lately (map raised_told told)
    ≡ map raised_shown (shown_lately told)
shown_lately-raised [] = refl
shown_lately-raised (Showed shown ∷ older) = simp (shown_lately-raised older)
shown_lately-raised (Slept ∷ older) = refl

lesser-raised : (number : Shown → ℤ) → ((shown : Shown) → number (raised_shown shown) ≡ number shown)
    → (newer : Shown) (older : Option Shown) → lesser number (raised_shown newer) (option_map raised_shown older)
    ≡ option_map raised_shown (lesser number newer older)
lesser-raised number same newer None = refl
lesser-raised number same newer (Some older) = simp same (grind arith)

worst-raised : (error : ℕ) (shown : List Shown) (now : Shown)
    → worst error (map raised_shown shown) (raised_shown now) ≡ option_map raised_shown (worst error shown now)
worst-raised error [] now = refl
worst-raised error (newer ∷ older) now =
    simp (worst-raised error older now)
    (lesser-raised (λ s. neg_ℤ (excess error s now)) (λ s. refl) newer (worst error older now))

time-raised : (last : Option Shown) (now : Shown) → time_verdict (option_map raised_shown last) (raised_shown now)
    ≡ result_map_both (λ x. x) raised_drift (time_verdict last now)
time-raised last now = grind arith

drift-raised : (error : ℕ) (earlier : Option Shown) (now : Shown)
    → drift_verdict error (option_map raised_shown earlier) (raised_shown now)
    ≡ result_map_both (λ x. x) raised_drift (drift_verdict error earlier now)
drift-raised error earlier now = grind arith

-- one test after another, where both tell their faults so
pub both-raised : {T U V E : Type 0} (rename : E → E) (f : T → T) (g : U → V) (a : Result T E) (b : Result U E)
    → result_and (result_map_both f rename a) (result_map_both g rename b)
    ≡ result_map_both g rename (result_and a b)
both-raised rename f g (Ok x) b = refl
both-raised rename f g (Err e) b = refl

verdict-raised : (error : ℕ) (told : List Told) (now : Shown) → verdict error (map raised_told told) (raised_shown now)
    ≡ result_map_both (λ x. x) raised_drift (verdict error told now)
verdict-raised error told now =
    let drift = drift_verdict error (worst error (shown_lately told) now) now in
    simp (
      last_shown-raised told,
      shown_lately-raised told,
      worst-raised error (shown_lately told) now,
      time-raised (last_shown told) now,
      drift-raised error (worst error (shown_lately told) now) now,
    ) (both-raised raised_drift (λ x. x) (λ x. x) (time_verdict (last_shown told) now) drift)

-- the fault of the line
broken-raised : (result : Result (Unit {0}) DriftFault)
    → result_map_both (λ x. x) broken_by (result_map_both (λ x. x) raised_drift result)
    ≡ raised_test (result_map_both (λ x. x) broken_by result)
broken-raised (Ok x) = refl
broken-raised (Err (drifts.Broken earlier excess)) = refl

clock_verdict-raised : (error : ℕ) (earlier : List Seen) (now : Seen)
    → clock_verdict error (map raised_seen earlier) (raised_seen now) ≡ raised_test (clock_verdict error earlier now)
clock_verdict-raised error earlier now =
    simp (
      told_by-raised earlier,
      told_with-raised now.woke (told_by earlier),
      verdict-raised error (told_with now.woke (told_by earlier)) (shown_at now),
    ) (broken-raised (verdict error (told_with now.woke (told_by earlier)) (shown_at now)))

-- ---- readings
reading_at-raised : (value : Option ℕ) (number : ℕ) (last : Option Reading)
    → option_or (option_map (λ v. record { line = number + 1; value = v }) value) (option_map raised_reading last)
    ≡ option_map raised_reading (option_or (option_map (λ v. record { line = number; value = v }) value) last)
reading_at-raised value number last = grind arith

last_reading-raised : (seen : List Seen) → last_reading (map raised_seen seen)
    ≡ option_map raised_reading (last_reading seen)
last_reading-raised [] = refl
last_reading-raised (now ∷ older) =
    simp (last_reading-raised older) (reading_at-raised now.reading now.number (last_reading older))

has_woken-raised : (seen : List Seen) → has_woken (map raised_seen seen) ≡ has_woken seen
has_woken-raised [] = refl
has_woken-raised (now ∷ older) = simp (has_woken-raised older)

near-raised : (number precision shown reading : ℕ)
    → near_verdict (number + 1) precision shown reading ≡ raised_test (near_verdict number precision shown reading)
near-raised number precision shown reading = grind arith

order-raised : (woken : Bool) (last : Option Reading) (reading : ℕ)
    → order_verdict woken (option_map raised_reading last) reading ≡ raised_test (order_verdict woken last reading)
order-raised woken last reading = grind arith

reading_verdict-raised : (number precision shown : ℕ) (woken : Bool) (last : Option Reading) (reading : Option ℕ)
    → reading_verdict (number + 1) precision shown woken (option_map raised_reading last) reading
    ≡ raised_test (reading_verdict number precision shown woken last reading)
reading_verdict-raised number precision shown woken last None = refl
reading_verdict-raised number precision shown woken last (Some reading) =
    simp (near-raised number precision shown reading, order-raised woken last reading)
    (both-raised raised_fault (λ x. x) (λ x. x) (near_verdict number precision shown reading)
    (order_verdict woken last reading))

-- ---- what the ends did
pub requests-raised : (lines : List Numbered) → requests (raised_lines lines) ≡ requests lines
requests-raised [] = refl
requests-raised (now ∷ older) = simp (requests-raised older)

askers-raised : (lines : List Numbered) → askers (raised_lines lines) ≡ askers lines
askers-raised [] = refl
askers-raised (now ∷ older) = simp (askers-raised older)

pub tickets-raised : (header : Header) (lines : List Numbered)
    → tickets header (raised_lines lines) ≡ tickets header lines
tickets-raised header [] = refl
tickets-raised header (now ∷ older) = simp (requests-raised older, tickets-raised header older)

taken_for-raised : (lines : List Numbered) → taken_for (raised_lines lines) ≡ taken_for lines
taken_for-raised [] = refl
taken_for-raised (now ∷ older) = simp (askers-raised older, taken_for-raised older)

datagrams-raised : (header : Header) (lines : List Numbered)
    → datagrams header (raised_lines lines) ≡ datagrams header lines
datagrams-raised header [] = refl
datagrams-raised header (now ∷ older) = simp (tickets-raised header older, datagrams-raised header older)

pub made_for-raised : (header : Header) (lines : List Numbered)
    → made_for header (raised_lines lines) ≡ made_for header lines
made_for-raised header [] = refl
made_for-raised header (now ∷ older) =
    simp (tickets-raised header older, taken_for-raised older, made_for-raised header older)

pub is_given-raised : (take : ℕ) (lines : List Numbered) → is_given take (raised_lines lines) ≡ is_given take lines
is_given-raised take [] = refl
is_given-raised take (now ∷ older) = simp (is_given-raised take older)

pub ends-raised : (header : Header) (lines : List Numbered) → ends_of header (raised_lines lines) ≡ ends_of header lines
ends-raised header [] = refl
ends-raised header (now ∷ older) = simp (datagrams-raised header older, ends-raised header older)

-- ---- the tests of a line
own_shown-raised : (header : Header) (older : List Numbered) (now : Numbered)
    → own_shown_tested header (raised_lines older) (raised_line now) ≡ raised_test (own_shown_tested header older now)
own_shown-raised header older now =
    simp (
      seen_of-raised now.line.who older,
      clock_verdict-raised (local_of now.line.who header).error (seen_of now.line.who older) (own_seen now),
    ) (grind arith)

shown-raised : (header : Header) (older : List Numbered) (now : Numbered)
    → shown_tested header (raised_lines older) (raised_line now) ≡ raised_test (shown_tested header older now)
shown-raised header older now =
    simp (
      seen_of_tv-raised older,
      clock_verdict-raised header.tv_error (seen_of_tv older) (tv_seen now),
      own_shown-raised header older now,
    ) (both-raised raised_fault (λ u. u) (λ u. u) (clock_verdict header.tv_error (seen_of_tv older) (tv_seen now))
    (own_shown_tested header older now))

reading-raised : (header : Header) (older : List Numbered) (now : Numbered)
    → reading_tested header (raised_lines older) (raised_line now) ≡ raised_test (reading_tested header older now)
reading-raised header older now =
    let who = now.line.who in
    let wall = seen_of_tv older in
    let own = seen_of who older in
    let precision = precision_ns header.tv_precision in
    let local = (local_of who header).precision in
    let tv_read = tv_reading now.line.verb in
    let own_read = own_reading now.line.verb in
    simp (
      seen_of_tv-raised older,
      seen_of-raised who older,
      last_reading-raised wall,
      last_reading-raised own,
      has_woken-raised own,
      reading_verdict-raised now.number precision now.line.w false (last_reading wall) tv_read,
      reading_verdict-raised now.number local now.line.l (has_woken own) (last_reading own) own_read,
    ) (both-raised raised_fault (λ u. u) (λ u. u)
    (reading_verdict now.number precision now.line.w false (last_reading wall) tv_read)
    (reading_verdict now.number local now.line.l (has_woken own) (last_reading own) own_read))

pub tested-raised : (header : Header) (older : List Numbered) (now : Numbered)
    → tested header (raised_lines older) (raised_line now) ≡ raised_test (tested header older now)
tested-raised header older now =
    simp (shown-raised header older now, reading-raised header older now)
    (both-raised raised_fault (λ u. u) (λ u. u) (shown_tested header older now) (reading_tested header older now))
