-- Each line of several companions is in the ranges of a schedule's lines, and is one of version 2.
use Rattle.std.proofs.Common.{◌≡◌, ℕ, suc, zero, ◌+◌, ◌*◌, ◌/◌, ◌%◌, ◌<◌, ◌≤◌, arith, refl, Bool, true, false, List}
use Rattle.std.proofs.Common.{◌∷◌, length, ltb-true, ltb-false, ◌==◌, nat_lt, min, if◌then◌else◌, slice_index}
use Rattle.std.proofs.lemmas.Bool.{eqb-false}
use Rattle.css_model.specs.declared.TheConstants.{LIMIT}
use Rattle.css_schedule.specs.declared.line.Verb.{Verb}
use Rattle.css_schedule.specs.Owners.{is_own}
use Rattle.css_schedule.specs.Ranges.{IsLine, IsVerb, IsSecond}
use Rattle.css_gen.specs.Draws.{draw}
use Rattle.css_gen.specs.Bounds.{CanHappen}
use Rattle.css_gen.specs.Course.{clock, later, asked, printed, chosen}
use Rattle.css_gen.specs.Crowd.{turn, datagrams, landed_from, landed_of, slept, chosen_of, happening_of, line_at}
use Rattle.css_gen.specs.Crowd.{next_line_of}
use Rattle.css_gen.specs.Opening.{opening_verb}
use Rattle.css_gen.specs.Second.{clock_line, line_placed}
use Rattle.css_gen.specs.Standing.{IsReady}
use Rattle.css_gen.specs.declared.course.Course.{Course}
use Rattle.css_gen.specs.declared.crowd.Crowd.{Crowd}
use Rattle.css_gen.specs.declared.crowd.Turn.{Turn}
use Rattle.css_gen.proofs.Draws.{draw-below}
use Rattle.css_gen.proofs.Clocks.{clock-range}
use Rattle.css_gen.proofs.Ranges.{asked-range, chosen-range, verb-range}
use Rattle.css_gen.proofs.Crowds.{turn-can}

-- ---- the datagrams
-- a datagram of so many answers
record IsMade (answers number : ℕ) : Type 0 where
  low : 1 ≤ number
  high : number ≤ 2 * answers

abbrev listed : (own : Bool) → (before : ℕ) → (older : List ℕ) → List ℕ
listed own before older = if own then (2 * before + 2) ∷ (2 * before + 1) ∷ older else older

-- those of one take more
listed-made : (own : Bool) (before : ℕ) (older : List ℕ) (i : ℕ)
    → ((j : ℕ) → j < length older → IsMade before (slice_index older j)) → i < length (listed own before older)
    → IsMade (suc before) (slice_index (listed own before older) i)
listed-made true before older zero made below = record { low = omega arith; high = omega arith }
listed-made true before older (suc zero) made below = record { low = omega arith; high = omega arith }
listed-made true before older (suc (suc i)) made below =
    let is = made i (omega (arith, below)) in
    let low = is.low in
    let high = is.high in
    record { low = low; high = omega (arith, high) }
listed-made false before older i made below =
    let is = made i below in
    let high = is.high in
    record { low = is.low; high = omega (arith, high) }

datagrams-made : (who : ℕ) (askers : List ℕ) (answers i : ℕ) → i < length (datagrams who askers answers)
    → IsMade answers (slice_index (datagrams who askers answers) i)
unfolding datagrams
datagrams-made who askers zero i below = absurd (omega arith)
datagrams-made who askers (suc before) i below =
    listed-made (slice_index askers before == who) before (datagrams who askers before) i
    (datagrams-made who askers before) below

-- ---- what happens
landed_of-range : (made : List ℕ) (course : Course) → CanHappen course
    → ((j : ℕ) → j < length made → IsMade course.answers (slice_index made j)) → IsVerb (landed_of made course).verb
landed_of-range made course h all = by (length made == 0) refl
  where
    by : (b : Bool) → (length made == 0) ≡ b
        → IsVerb (if b then asked course else landed_from made course (draw (min (length made) 8) course.words)).verb
    by true e = asked-range course h
    by false e =
        let some = eqb-false (length made) 0 e in
        let back = draw (min (length made) 8) course.words in
        let below = draw-below (min (length made) 8) course.words (omega (arith, some)) in
        let is = all back.number (omega (arith, below)) in
        let high = is.high in
        let takes = h.takes in
        let answers = h.answers in
        record {
          number = record { low = is.low; high = omega (arith, high, takes, answers) };
          reading = clock-range course.own_fast course.time h.time;
        }

chosen_of-range : (choice : ℕ) (made : List ℕ) (course : Course) → CanHappen course
    → ((j : ℕ) → j < length made → IsMade course.answers (slice_index made j))
    → IsVerb (chosen_of choice made course).verb
unfolding chosen_of
chosen_of-range choice made course h all = by (nat_lt choice 4) (nat_lt choice 6) (nat_lt choice 8)
  where
    by : (a b c : Bool) → IsVerb
        (if a then chosen choice course
        else if b then landed_of made course
        else if c then printed course
        else slept course).verb
    by true b c = chosen-range choice course h
    by false true c = landed_of-range made course h all
    by false false true = clock-range course.own_fast course.time h.time
    by false false false = tt

happening_of-range : (askers : List ℕ) (turn : Turn) → CanHappen turn.course → IsVerb (happening_of askers turn).verb
unfolding happening_of
happening_of-range askers turn h =
    let choice = draw 9 turn.course.words in
    chosen_of-range choice.number (datagrams turn.who askers turn.course.answers)
    (record turn.course { words = choice.left })
    (record { time = h.time; requests = h.requests; takes = h.takes; answers = h.answers })
    (datagrams-made turn.who askers turn.course.answers)

-- ---- whose a line is
-- what a companion takes part in has its number, and the rest has none
record IsWhose (most number shown : ℕ) (mine : Bool) : Type 0 where
  who : (if mine then number else 0) ≤ most
  own : mine ≡ true → 1 ≤ (if mine then number else 0)
  none : (if mine then number else 0) ≡ 0 → (if mine then shown else 0) ≡ 0
  clock : shown < LIMIT → (if mine then shown else 0) < LIMIT

whose : (most number shown : ℕ) (mine : Bool) → 1 ≤ number → number ≤ most → IsWhose most number shown mine
whose most number shown true some few =
    record { who = few; own = λ e. some; none = λ e. absurd (omega arith); clock = λ h. h }
whose most number shown false some few =
    record { who = omega arith; own = λ e. absurd (cc); none = λ e. refl; clock = λ h. omega arith }

line_at-second : (most t w who l : ℕ) (verb : Verb) → 1 ≤ who → who ≤ most → IsSecond most (line_at t w who l verb)
line_at-second most t w who l verb some few =
    let is = whose most who l (is_own verb) some few in
    record { who = is.who; own = is.own; none = is.none }

-- ---- the drawn lines
pub next-range_of : (crowd : Crowd) → IsReady crowd → IsLine (next_line_of crowd)
next-range_of crowd h =
    let can = turn-can crowd h in
    let time = can.course.time in
    let course = (turn crowd).course in
    let own = clock-range course.own_fast course.time can.course.time in
    let verb = (happening_of crowd.askers (turn crowd)).verb in
    let is = whose 16 (turn crowd).who (clock course.own_fast course.time) (is_own verb) can.who.low can.who.high in
    record {
      t = omega (arith, time);
      w = clock-range course.tv_fast course.time can.course.time;
      l = is.clock own;
      verb = happening_of-range crowd.askers (turn crowd) can.course;
    }

-- it is of version 2
pub next-second : (crowd : Crowd) → IsReady crowd → IsSecond 16 (next_line_of crowd)
next-second crowd h =
    let can = turn-can crowd h in
    let course = (turn crowd).course in
    line_at-second 16 course.time (clock course.tv_fast course.time) (turn crowd).who
    (clock course.own_fast course.time) (happening_of crowd.askers (turn crowd)).verb can.who.low can.who.high

-- its companion is one of these
turn-few : (crowd : Crowd) → 1 ≤ crowd.companions → (turn crowd).who ≤ crowd.companions
unfolding turn
turn-few crowd some =
    let below = draw-below crowd.companions (later crowd.course).words (omega arith) in omega (arith, below)

pub next-few : (crowd : Crowd) → IsReady crowd → (next_line_of crowd).who ≤ crowd.companions
next-few crowd h =
    let low = h.companions.low in
    let can = turn-can crowd h in
    (whose crowd.companions (turn crowd).who 0 (is_own (happening_of crowd.askers (turn crowd)).verb) can.who.low
    (turn-few crowd low)).who

-- ---- the opening
pub placed-range : (place : ℕ) → IsLine (line_placed place)
placed-range place = by (nat_lt place 5)
  where
    by : (b : Bool) → IsLine (if b then clock_line 0 0 place else clock_line (place / 5) 1000000000 (5 + place % 5))
    by true = record { t = omega arith; w = omega arith; l = omega arith; verb = verb-range place }
    by false = record { t = omega arith; w = omega arith; l = omega arith; verb = verb-range (5 + place % 5) }

-- the television's three lines
own-placed : (place : ℕ) → 2 ≤ place → place < 5 → is_own (opening_verb place) ≡ false
unfolding opening_verb
own-placed zero low high = absurd (omega arith)
own-placed (suc zero) low high = absurd (omega arith)
own-placed (suc (suc zero)) low high = refl
own-placed (suc (suc (suc zero))) low high = refl
own-placed (suc (suc (suc (suc zero)))) low high = refl
own-placed (suc (suc (suc (suc (suc place))))) low high = absurd (omega arith)

pub placed-second : (most place : ℕ) → 2 ≤ place → place ≤ 4 + 5 * most → IsSecond most (line_placed place)
placed-second most place low high = by (nat_lt place 5) refl
  where
    by : (b : Bool) → nat_lt place 5 ≡ b
        → IsSecond most (if b then clock_line 0 0 place else clock_line (place / 5) 1000000000 (5 + place % 5))
    by true e =
        let not = own-placed place low (ltb-true place 5 e) in
        record { who = omega arith; own = λ own. absurd (cc); none = λ none. refl }
    by false e =
        let late = ltb-false place 5 e in
        record {
          who = omega (arith, high);
          own = λ own. omega (arith, late);
          none = λ none. absurd (omega (arith, late, none));
        }
