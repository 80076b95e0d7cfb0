-- Where the entries of a companion's history have their moments, and that its readings are of its clock there.
use Rattle.std.proofs.Common.{◌≡◌, ℕ, suc, ◌-◌, ◌<◌, ◌≤◌, arith, ap, sym, subst, ◌∙◌, refl, not, ne_eqb, Bool, true}
use Rattle.std.proofs.Common.{false, cond, ◌==◌, ltb, List, [], ◌∷◌, length, ◌&&◌, Option, Some, None, IfSome, Ok}
use Rattle.std.proofs.Common.{lt-ltb, le-ltb, ltb-true, ltb-false, eq-eqb}
use Rattle.std.specs.Int.{abs_diff}
use Rattle.css_model.specs.Explains.{HappensIn, ReadsAt}
use Rattle.css_meaning.specs.declared.reading.Reading.{Reading}
use Rattle.css_meaning.specs.Happened.{Numbered, datagrams, done_by, events_of, history_of}
use Rattle.css_meaning.specs.Worlds.{world_of, sleeps_of, moment, moment_number}
use Rattle.css_meaning.specs.Clocks.{near_verdict, order_verdict, reading_verdict, last_reading, has_woken}
use Rattle.css_meaning.specs.Verdicts.{tv_reading, own_reading, seen_of_tv, seen_of, local_of, tested}
use Rattle.css_meaning.specs.Accepted.{AreAccepted}
use Rattle.css_meaning.proofs.Names.{Message, IsWithin, precision_ns, World, Moment, OwnClock, Reads, is_sleep, Entry}
use Rattle.css_meaning.proofs.Names.{History, Each, sleeps, Header, Verb, Ask, Land, Wall, Print, TvEvent}
use Rattle.css_meaning.proofs.Worlds.{tested_ok, reading-ok, world-older, world-now, first_ok, sleeps_awake}
use Rattle.css_meaning.proofs.Ends.{history_now}
use Rattle.css_meaning.proofs.Lawful.{done_at, IsTalk, Adds, each_line, own_passes, sleeps_are}

-- ---- moments
-- The world has the moments of these lines, and each entry of the history of companion `who` is made at that of its
-- line.
abbrev pub Agrees : World → (ℕ → ℕ) → Header → ℕ → List Numbered → Type 0
Agrees world moment_of header who [] = Unit {0}
Agrees world moment_of header who (now ∷ older) =
    (world (length older) ≡ moment older now)
    × ((entry : ℕ) → length (history_of who header older) ≤ entry
    → entry < length (history_of who header (now ∷ older)) → moment_of entry ≡ length older)
    × Agrees world moment_of header who older

-- no verb shortens a history
longer_by : (header : Header) (who : ℕ) (made : List Message) (events : List TvEvent) (verb : Verb) (older : History)
    → length older ≤ length (done_by header who made events verb older)
longer_by header who made events verb older = grind arith

-- a history doesn't get shorter by a line
pub longer : (header : Header) (who : ℕ) (now : Numbered) (older : List Numbered)
    → length (history_of who header older) ≤ length (history_of who header (now ∷ older))
longer header who now older = by (now.line.who == who)
  where
    by : (b : Bool) → length (history_of who header older) ≤ length
        (cond b (done_at header older who now.line.verb) (history_of who header older))
    by true =
        longer_by header who (datagrams header older) (events_of header older) now.line.verb
        (history_of who header older)
    by false = omega arith

-- another world that has the same moments agrees too
agrees_too : (world world' : World) (moment_of moment_of' : ℕ → ℕ) (header : Header) (who : ℕ) (lines : List Numbered)
    → ((i : ℕ) → i < length lines → world' i ≡ world i)
    → ((entry : ℕ) → entry < length (history_of who header lines) → moment_of' entry ≡ moment_of entry)
    → Agrees world moment_of header who lines → Agrees world' moment_of' header who lines
agrees_too world world' moment_of moment_of' header who [] same same' agrees = tt
agrees_too world world' moment_of moment_of' header who (now ∷ older) same same' agrees = (
  same (length older) (omega arith) ∙ agrees.0,
  λ entry from below. same' entry below ∙ agrees.1 entry from below,
  agrees_too world world' moment_of moment_of' header who older (λ i h. same i (omega (arith, h)))
      (λ entry h. same' entry (omega (arith, h, longer header who now older))) agrees.2,
)

-- the world of lines has their moments
pub agrees : (header : Header) (who : ℕ) (lines : List Numbered)
    → Agrees (world_of lines) (moment_number who header lines) header who lines
agrees header who [] = tt
agrees header who (now ∷ older) = (
  world-now now older (length older) (omega arith),
  λ entry from below. ap (λ b. cond b (moment_number who header older entry) (length older))
      (le-ltb entry (length (history_of who header older)) from),
  agrees_too (world_of older) (world_of (now ∷ older)) (moment_number who header older)
      (moment_number who header (now ∷ older)) header who older
      (λ i h. world-older now older i h)
      (λ entry h. ap (λ b. cond b (moment_number who header older entry) (length older))
      (lt-ltb entry (length (history_of who header older)) h))
      (agrees header who older),
)

-- an entry's moment is among those of the lines
number-below : (header : Header) (who : ℕ) (lines : List Numbered) (entry : ℕ)
    → moment_number who header lines entry ≤ length lines
number-below header who [] entry = omega arith
number-below header who (now ∷ older) entry =
    by (ltb entry (length (history_of who header older))) (number-below header who older entry)
  where
    by : (b : Bool) → moment_number who header older entry ≤ length older
        → cond b (moment_number who header older entry) (length older) ≤ length (now ∷ older)
    by true h = omega (arith, h)
    by false h = omega arith

-- moments come in the order of the entries
pub numbers-rise : (header : Header) (who : ℕ) (lines : List Numbered) (i j : ℕ) → i ≤ j
    → moment_number who header lines i ≤ moment_number who header lines j
numbers-rise header who [] i j le = omega arith
numbers-rise header who (now ∷ older) i j le =
    by (ltb i n) (ltb j n) refl refl (numbers-rise header who older i j le)
  where
    n : ℕ
    n = length (history_of who header older)

    by : (b c : Bool) → ltb i n ≡ b → ltb j n ≡ c → moment_number who header older i ≤ moment_number who header older j
        → cond b (moment_number who header older i) (length older) ≤ cond c
        (moment_number who header older j) (length older)
    by true true p q h = h
    by true false p q h = number-below header who older i
    by false true p q h = absurd (omega (arith, le, ltb-false i n p, ltb-true j n q))
    by false false p q h = omega arith

-- ---- readings
-- a reading that isn't refused is within the precision
near_ok : (number precision shown reading : ℕ) → near_verdict number precision shown reading ≡ Ok tt
    → IsWithin precision reading shown
near_ok number precision shown reading e =
    let small : abs_diff reading shown ≤ precision = grind (arith, e) in
    (omega (arith, small), omega (arith, small))

-- so is one that is taken at a line
reading_ok : (number precision shown : ℕ) (woken : Bool) (last : Option Reading) (reading : ℕ)
    → reading_verdict number precision shown woken last (Some reading) ≡ Ok tt → IsWithin precision reading shown
reading_ok number precision shown woken last reading e =
    let near = first_ok (near_verdict number precision shown reading) (order_verdict woken last reading) tt e in
    near_ok number precision shown reading near.1

-- what is asked of a reading, if there is one
abbrev pub NearBy : ℕ → ℕ → Option ℕ → Type 0
NearBy precision shown reading = IfSome reading (λ r. IsWithin precision r shown)

-- a reading that passes is near its clock
near_by : (number precision shown : ℕ) (woken : Bool) (last : Option Reading) (reading : Option ℕ)
    → reading_verdict number precision shown woken last reading ≡ Ok tt → NearBy precision shown reading
near_by number precision shown woken last None e = tt
near_by number precision shown woken last (Some reading) e = reading_ok number precision shown woken last reading e

-- the television's reading at an accepted line is near the wall clock
pub tv_near : (header : Header) (older : List Numbered) (now : Numbered) → tested header older now ≡ Ok tt
    → NearBy (precision_ns header.tv_precision) now.line.w (tv_reading now.line.verb)
tv_near header older now e =
    let who = now.line.who in
    let last = last_reading (seen_of_tv older) in
    let first = first_ok (reading_verdict now.number (precision_ns header.tv_precision) now.line.w false last
    (tv_reading now.line.verb))
    (reading_verdict now.number (local_of who header).precision now.line.l (has_woken (seen_of who older))
    (last_reading (seen_of who older)) (own_reading now.line.verb)) tt (reading-ok header older now e) in
    near_by now.number (precision_ns header.tv_precision) now.line.w false last (tv_reading now.line.verb) first.1

-- and that of its companion is near its own clock
pub own_near : (header : Header) (older : List Numbered) (now : Numbered) (who : ℕ) → now.line.who ≡ who
    → tested header older now ≡ Ok tt → NearBy (local_of who header).precision now.line.l (own_reading now.line.verb)
own_near header older now who own e =
    near_by now.number (local_of who header).precision now.line.l (has_woken (seen_of who older))
    (last_reading (seen_of who older)) (own_reading now.line.verb) (own_passes header older now who own e)

-- ---- the history can happen
-- an entry of a session reads no clock
reads_talk : (world : World) (header : Header) (who : ℕ) (moment_of : ℕ → ℕ) (entry : Entry) (before : History)
    → IsTalk entry → ReadsAt world who (local_of who header) moment_of entry before
reads_talk world header who moment_of entry before talk = grind (arith, talk)

-- the entries of a line of companion `who` that says this are made at the moment of the line
abbrev pub AreHere : (ℕ → ℕ) → Header → ℕ → List Numbered → Verb → Type 0
AreHere moment_of header who older verb =
    (entry : ℕ) → length (history_of who header older) ≤ entry → entry < length (done_at header older who verb)
    → moment_of entry ≡ length older

module _ (world : World) (moment_of : ℕ → ℕ) (header : Header) (who : ℕ) (first : 1 ≤ who) (now : Numbered)
    (lines : List Numbered) (at : world (length lines) ≡ moment lines now) (own : now.line.who ≡ who) where
  -- companion `who` reads its clock in an entry of this line
  reads_at : (entry reading slept : ℕ) → moment_of entry ≡ length lines → slept ≡ sleeps_of who (now ∷ lines)
      → IsWithin (local_of who header).precision reading now.line.l
      → Reads world who (moment_of entry) (local_of who header).precision reading slept
  reads_at entry reading slept here awake near =
      let shows : OwnClock = record { value = now.line.l; sleeps = sleeps_of who (now ∷ lines) } in
      let other : (who == 0) ≡ false = ne_eqb who 0 (λ same. absurd (omega (arith, same, first))) in
      record {
        clock = shows;
        shows = ap (λ (m : Moment). m.companion who) (ap world here ∙ at)
            ∙ ap (λ b. cond (not b && (now.line.who == who)) (Some shows) None) other
            ∙ ap (λ b. cond b (Some shows) None) (eq-eqb now.line.who who own);
        awake = sym awake;
        near = near;
      }

  -- the entries of one verb read the line's clocks
  reads_by : (verb : Verb)
      → (is_sleep verb ≡ false → sleeps (history_of who header lines) ≡ sleeps_of who (now ∷ lines))
      → AreHere moment_of header who lines verb → NearBy (local_of who header).precision now.line.l (own_reading verb)
      → Adds (ReadsAt world who (local_of who header) moment_of) (datagrams header lines) verb
      (history_of who header lines)
  reads_by (Ask reading) slept here near =
      let n : ℕ = length (history_of who header lines) in
      (tt, reads_at n reading _ (here n (omega arith) (omega arith)) (slept refl) near)
  reads_by (Land datagram reading) slept here near =
      let n : ℕ = suc (length (history_of who header lines)) in
      (reads_at n reading _ (here n (omega arith) (omega arith)) (slept refl) near, tt)
  reads_by (Wall reading) slept here near =
      let n : ℕ = length (history_of who header lines) in
      reads_at n reading _ (here n (omega arith) (omega arith)) (slept refl) near
  reads_by (Print reading) slept here near =
      let n : ℕ = length (history_of who header lines) in
      reads_at n reading _ (here n (omega arith) (omega arith)) (slept refl) near
  reads_by _ slept here near = tt

-- the entries of a line are made at its moment
pub entries-here : (moment_of : ℕ → ℕ) (header : Header) (who : ℕ) (now : Numbered) (older : List Numbered)
    → now.line.who ≡ who
    → ((entry : ℕ) → length (history_of who header older) ≤ entry
    → entry < length (history_of who header (now ∷ older)) → moment_of entry ≡ length older)
    → AreHere moment_of header who older now.line.verb
entries-here moment_of header who now older own here entry from below =
    here entry from (subst (λ (h : History). entry < length h) (sym (history_now header now older who own)) below)

-- so do those of all lines
pub reads_each : (world : World) (moment_of : ℕ → ℕ) (header : Header) (who : ℕ) (lines : List Numbered) → 1 ≤ who
    → AreAccepted header lines → Agrees world moment_of header who lines
    → Each (ReadsAt world who (local_of who header) moment_of) (history_of who header lines)
reads_each world moment_of header who lines first accepted agreed =
    each_line header who (ReadsAt world who (local_of who header) moment_of)
    (λ ls. AreAccepted header ls × Agrees world moment_of header who ls) (reads_talk world header who moment_of)
    (λ now older known. (known.0.4, known.1.2)) (λ now older own known.
    reads_by world moment_of header who first now older known.1.0 own now.line.verb
    (λ awake. sleeps_are header who older ∙ sym (sleeps_awake now older who awake))
    (entries-here moment_of header who now older own known.1.1)
    (own_near header older now who own (tested_ok header older now known.0.3.0 known.0.3.1))) lines (accepted, agreed)

-- what a companion did at accepted lines can happen in their world
pub happens : (header : Header) (who : ℕ) (lines : List Numbered) → 1 ≤ who → AreAccepted header lines
    → HappensIn (world_of lines) who (local_of who header) (history_of who header lines)
    (moment_number who header lines)
happens header who lines first accepted = record {
  in_order = numbers-rise header who lines;
  reads = reads_each (world_of lines) (moment_number who header lines) header who lines first accepted
      (agrees header who lines);
}
