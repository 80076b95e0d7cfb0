-- A line that was carried out is one more that the world stands for.
use Rattle.std.proofs.Common.{◌≡◌, ◌<◌, ℕ, Bool, true, false, cond, List, [], ◌∷◌, ◌++◌, append-nil, refl, ap, sym}
use Rattle.std.proofs.Common.{subst, ◌∙◌, inl, inr, Option, Some, None, IfSome, length, Result, Ok, Err, OnOk, OnErr}
use Rattle.std.specs.Option.{option_map}
use Rattle.css_num.specs.Gives.{GivesBy, LeavesBy}
use Rattle.css_model.specs.Numbers.{precision_ns}
use Rattle.css_moments.specs.Drifts.{Shown, last_shown}
use Rattle.css_moments.specs.Standing as drifts
use Rattle.css_moments.specs.declared.kept.Last.{Last}
use Rattle.css_meaning.specs.Clocks.{told_by, shown_at, has_woken, last_reading, reading_verdict}
use Rattle.css_meaning.specs.Verdicts.{local_of}
use Rattle.css_meaning.proofs.Accepting.{next_own}
use Rattle.css_meaning.proofs.Truth.{accepted_lines_are_true}
use Rattle.css_world.specs.declared.both.Ends.{Ends}
use Rattle.css_world.specs.declared.clocks.Clocks.{Clocks}
use Rattle.css_world.specs.Standing.{World, Kept, EndsStand, IsReady, StandsFor, carried, CarriesOut, PrintsFor, Prints}
use Rattle.css_world.specs.Standing.{ShowsBy, ShownTo, ReadsBy, ReadTo, AreNext, MayTake, Means, GoesOn, appended}
use Rattle.css_world.specs.Standing.{TellsTruth}
use Rattle.css_world.proofs.Names.{ForSome, result_and, IsErrAnd, IsLine, IsSecond, Header, Line, Verb, WorldFault}
use Rattle.css_world.proofs.Names.{Absent, Memory, Numbered, events_of, IsNext, tv_seen, seen_of_tv, seen_of}
use Rattle.css_world.proofs.Names.{tv_reading, own_reading, reading_tested, tested, can_happen, event_at, played}
use Rattle.css_world.proofs.Names.{printed_for, carried_out, line_meant, order_by, second_ok}
use Rattle.css_world.proofs.Owning.{are_on}

-- ---- what is answered
-- what is carried out at a line, by whether it can be and what is printed
carried-out : (header : Header) (lines : List Numbered) (now : Numbered) (verb : Verb) → now.line.verb ≡ verb
    → carried_out header lines now
    ≡ result_and (carried header lines now.line.who verb) (Ok (printed_for header lines now verb))
carried-out header lines now verb is =
    let who = now.line.who in
    ap meant is ∙ by (can_happen header lines who verb)
    (played (events_of header lines) (event_at header lines who verb))
  where
    meant : Verb → Result (List ℕ) WorldFault
    meant v = cond (can_happen header lines now.line.who v)
        (result_and (played (events_of header lines) (event_at header lines now.line.who v))
        (Ok (printed_for header lines now v))) (Err Absent)

    by : (can : Bool) (done : Result (Unit {0}) WorldFault)
        → cond can (result_and done (Ok (printed_for header lines now verb))) (Err Absent)
        ≡ result_and (cond can done (Err Absent)) (Ok (printed_for header lines now verb))
    by true done = refl
    by false done = refl

-- what is answered, where this was printed or told
answers-as : (before after printed : List ℕ) (result done : Result (Unit {0}) WorldFault)
    (verdict : Result (List ℕ) WorldFault)
    → verdict ≡ result_and done (Ok printed) → GivesBy (λ x. x) Memory result done
    → OnOk result (after ≡ before ++ printed) → OnErr result (after ≡ before)
    → LeavesBy Memory result before after (appended before verdict)
answers-as before after printed (Ok tt) done verdict is gives ok err =
    ap (appended before) (is ∙ ap (λ r. result_and r (Ok printed)) gives) ∙ ap Ok (sym ok)
answers-as before after printed (Err fault) done verdict is (inl told) ok err =
    (err, inl (ap (appended before) (is ∙ ap (λ r. result_and r (Ok printed)) told)))
answers-as before after printed (Err fault) done verdict is (inr memory) ok err = (err, inr memory)

-- a line for which nothing is printed
pub prints_nothing : (old new : Ends) (before : List ℕ) (result : Result (Unit {0}) WorldFault) (number : ℕ)
    (line : Line) {verb : Verb} → line.verb ≡ verb
    → (let now : Numbered = record { number = number; line = line } in
    ((header : Header) (lines : List Numbered) → printed_for header lines now verb ≡ [])
    → CarriesOut old new result line.who verb → Prints old new before before result now)
prints_nothing old new before result number line {verb} is nothing carries = λ header lines ready may.
    let now : Numbered = record { number = number; line = line } in
    let who = line.who in
    let done = carries header lines now refl is ready (subst (MayTake who lines) is may) in
    let verdict = carried-out header lines now verb is
    ∙ ap (λ p. result_and (carried header lines who verb) (Ok p)) (nothing header lines) in
    record {
      answer = answers-as before before [] result (carried header lines who verb)
          (carried_out header lines now) verdict done.answer
          (on-ok result (sym (append-nil before))) (on-err result refl);
      are = done.are;
      ends = done.ends;
    }
  where
    on-ok : {P : Type 0} (r : Result (Unit {0}) WorldFault) → P → OnOk r P
    on-ok (Ok x) p = p
    on-ok (Err fault) p = tt

    on-err : {P : Type 0} (r : Result (Unit {0}) WorldFault) → P → OnErr r P
    on-err (Ok x) p = tt
    on-err (Err fault) p = p

-- a line at which a companion prints, which can always happen, and at which nothing happens at the television
pub prints_line : (old : Kept) (before after : List ℕ) (result : Result (Unit {0}) WorldFault) (lines : List Numbered)
    (now : Numbered) (verb : Verb) (printed : List ℕ)
    → now.line.verb ≡ verb → carried old.header lines now.line.who verb ≡ Ok tt
    → printed_for old.header lines now verb ≡ printed
    → OnOk result (after ≡ before ++ printed) → OnErr result ((result ≡ Err Memory) × (after ≡ before))
    → IsReady old lines → MayTake now.line.who lines now.line.verb
    → EndsStand old (now ∷ lines) → PrintsFor old old before after result lines now
prints_line old before after (Ok tt) lines now verb printed is done prints ok err ready may ends = record {
  answer = answers-as before after printed (Ok tt) (carried old.header lines now.line.who verb)
      (carried_out old.header lines now)
      (carried-out old.header lines now verb is
      ∙ ap (λ p. result_and (carried old.header lines now.line.who verb) (Ok p)) prints) done ok tt;
  are = are_on old lines now now.line.who now.line.verb refl refl may ready.are;
  ends = ends;
}
prints_line old before after (Err fault) lines now verb printed is done prints ok err ready may ends = record {
  answer = (err.1, inr (let same : fault ≡ Memory = cc in same));
  are = tt;
  ends = tt;
}

-- ---- which lines may come
-- what a drift was told of last comes before the line
next-of : (number : ℕ) (told : Option Shown) (last : Option Last) → last ≡ option_map drifts.last_of told
    → IfSome told (λ shown. shown.line < number) → ForSome last (λ x. x.line < number)
next-of number None last is next = λ x some. absurd (cc)
next-of number (Some shown) last is next = λ x some.
    let equal : Some x ≡ Some (drifts.last_of shown) = sym some ∙ is in
    let same : drifts.last_of shown ≡ x = cc in
    subst (λ (l : Last). l.line < number) same next

-- the line comes after the last one that each drift was told of
pub lines_next : (world : World) (lines : List Numbered) (number : ℕ) → StandsFor world lines → IsNext number lines
    → AreNext world.clocks number
lines_next world lines number stands next = record {
  tv = by lines stands.clocks.tv.drift.last next;
  own = λ who watch found.
      next-of number (last_shown (told_by (seen_of who lines))) watch.drift.last
      (stands.clocks.own who watch found).drift.last
      (next_own world.header who number lines stands.ready.accepted next);
}
  where
    by : (lines : List Numbered)
        → world.clocks.tv.drift.last ≡ option_map drifts.last_of (last_shown (told_by (seen_of_tv lines)))
        → IsNext number lines → ForSome world.clocks.tv.drift.last (λ x. x.line < number)
    by [] is next = next-of number None world.clocks.tv.drift.last is tt
    by (last ∷ older) is next = next-of number (Some (shown_at (tv_seen last))) world.clocks.tv.drift.last is next

-- a companion's reading that passed its test is one that may come
pub may_take : (header : Header) (lines : List Numbered) (now : Numbered) → reading_tested header lines now ≡ Ok tt
    → MayTake now.line.who lines now.line.verb
may_take header lines now is =
    let who = now.line.who in
    order_by now.number (local_of who header).precision now.line.l (has_woken (seen_of who lines))
    (last_reading (seen_of who lines)) (own_reading now.line.verb)
    (second_ok (reading_verdict now.number (precision_ns header.tv_precision) now.line.w false
    (last_reading (seen_of_tv lines)) (tv_reading now.line.verb)) _ tt is)

-- ---- a line
-- nothing is promised after a fault
pub not_ok : (result : Result (Unit {0}) WorldFault) (P : Type 0) (Q : WorldFault → Type 0) → IsErrAnd result Q
    → OnOk result P
not_ok (Ok x) P Q never = absurd never
not_ok (Err fault) P Q is = tt

-- a line that is refused for its numbers means why
pub means_fault : (old : World) (before : List ℕ) (result : Result (Unit {0}) WorldFault) (fault : WorldFault)
    (now : Numbered) → result ≡ Err fault
    → ((lines : List Numbered) → StandsFor old lines → tested old.header lines now ≡ Err fault)
    → Means old before before result now
means_fault old before result fault now is tests = λ lines stands.
    let told : line_meant old.header lines now ≡ Err fault =
    ap (λ (r : Result (Unit {0}) WorldFault). result_and r (carried_out old.header lines now)) (tests lines stands) in
    rw is (refl, inl (ap (appended before) told))

-- A line is shown to the clocks, then its reading, and then it is carried out: what each step left.
pub record Steps (header : Header) (old shown read : Clocks) (ends new : Ends) (before after : List ℕ)
    (result : Result (Unit {0}) WorldFault) (now : Numbered) : Type 0 where
  pub range : IsLine now.line
  pub of : IsSecond (length header.companions) now.line
  pub shown_ok : ShowsBy old (Ok tt) now
  pub shown_to : ShownTo old shown (Ok tt) now
  pub read_ok : ReadsBy shown (Ok tt) now
  pub read_to : ReadTo shown read (Ok tt) now
  pub prints : Prints ends new before after result now

-- a line that was carried out is accepted
accepted-as : (before after : List ℕ) (verdict : Result (List ℕ) WorldFault) → appended before verdict ≡ Ok after
    → (printed : List ℕ) × (verdict ≡ Ok printed)
accepted-as before after (Ok printed) is = (printed, refl)
accepted-as before after (Err fault) is = absurd (cc)

-- the world of these parts
abbrev pub world_as : Header → Clocks → Ends → World
world_as header clocks ends = record { header = header; clocks = clocks; ends = ends }

-- what a world stands for, its parts stand for
pub stood : {old now : World} {lines : List Numbered} → old ≡ now → StandsFor now lines → StandsFor old lines
stood {old} {now} {lines} view = subst (λ (w : World). StandsFor w lines) (sym view)

-- a line is of one of so many companions
pub is_second : {old now : World} {line : Line} {n : ℕ} → old ≡ now → n ≡ length old.header.companions
    → IsSecond (length now.header.companions) line → IsSecond n line
is_second {old} {now} {line} view count of = rw (count ∙ ap (λ (w : World). length w.header.companions) view) of

module _ {header : Header} {old shown read : Clocks} {ends new : Ends} {before after : List ℕ} {now : Numbered} where
  -- its numbers passed their tests
  passed : {result : Result (Unit {0}) WorldFault} (lines : List Numbered)
      → Steps header old shown read ends new before after result now → StandsFor (world_as header old ends) lines
      → (tested header lines now ≡ Ok tt) × MayTake now.line.who lines now.line.verb
  passed lines steps stands =
      let shown_ok = steps.shown_ok header lines stands.clocks in
      let read_ok = steps.read_ok header (now ∷ lines) lines (steps.shown_to header lines stands.clocks) in (
        ap (λ (r : Result (Unit {0}) WorldFault). result_and r (reading_tested header lines now)) (sym shown_ok)
            ∙ sym read_ok,
        may_take header lines now (sym read_ok),
      )

  -- what is meant is what is carried out
  meant : {result : Result (Unit {0}) WorldFault} (lines : List Numbered)
      → Steps header old shown read ends new before after result now → StandsFor (world_as header old ends) lines
      → line_meant header lines now ≡ carried_out header lines now
  meant lines steps stands =
      ap (λ (r : Result (Unit {0}) WorldFault). result_and r (carried_out header lines now))
      (passed lines steps stands).0

  -- what the line means is answered
  pub line_answers : (result : Result (Unit {0}) WorldFault)
      → Steps header old shown read ends new before after result now
      → Means (world_as header old ends) before after result now
  line_answers result steps lines stands =
      rw (meant lines steps stands) (steps.prints header lines stands.ready (passed lines steps stands).1).answer

  -- the world stands for the line too
  pub line_stands : (result : Result (Unit {0}) WorldFault)
      → Steps header old shown read ends new before after result now
      → GoesOn (world_as header old ends) (world_as header read new) result now
  line_stands (Ok x) steps lines stands next =
      let done = steps.prints header lines stands.ready (passed lines steps stands).1 in
      let ok = accepted-as before after (carried_out header lines now) done.answer in
      record {
        clocks = steps.read_to header (now ∷ lines) lines (steps.shown_to header lines stands.clocks);
        ready = record {
          declared = stands.ready.declared;
          accepted = (steps.range, steps.of, next, (ok.0, meant lines steps stands ∙ ok.1), stands.ready.accepted);
          are = done.are;
          ends = done.ends;
        };
      }
  line_stands (Err fault) steps lines stands next = tt

  -- and what is printed for it is true
  pub line_true : (result : Result (Unit {0}) WorldFault) → Steps header old shown read ends new before after result now
      → TellsTruth (world_as header old ends) result now
  line_true (Ok x) steps lines stands next =
      accepted_lines_are_true header lines now stands.ready.declared
      (line_stands (Ok x) steps lines stands next).ready.accepted
  line_true (Err fault) steps lines stands next = tt
