-- Each generated line is in the ranges of a schedule's lines.
use Rattle.std.proofs.Common.{◌≡◌, ℕ, ◌-◌, ◌*◌, ◌^◌, ◌<◌, ◌≤◌, arith, refl, Bool, true, false}
use Rattle.std.specs.Prelude.{◌==◌, nat_lt, min, if◌then◌else◌, codes, pos}
use Rattle.std.specs.Str.{IsUtf8}
use Rattle.std.proofs.lemmas.Bool.{eqb-false}
use Rattle.css_num.specs.Rates.{IsTickRate}
use Rattle.css_player.specs.declared.command.Command.TheVariants.{Change}
use Rattle.css_num.specs.declared.protocol.Kind.TheVariants.{Cii, Ts}
use Rattle.css_schedule.specs.declared.line.Verb.TheVariants.{Programme, Timeline, Viewer, Opening, Bring, Up}
use Rattle.css_schedule.specs.Ranges.{IsLine, IsVerb, IsOrdinal}
use Rattle.css_schedule.proofs.Graphic.{word-utf8}
use Rattle.css_gen.specs.Draws.{draw}
use Rattle.css_gen.specs.Course.{asked, taken, taken_back, given, given_next, landed, landed_back, printed}
use Rattle.css_gen.specs.Course.{chosen, later, happening, next_line}
use Rattle.css_gen.specs.Opening.{pts, opening_verb, opening_line}
use Rattle.css_gen.specs.Generated.{course_before, line_numbered}
use Rattle.css_gen.specs.Bounds.{IsSmall, CanHappen}
use Rattle.css_gen.specs.declared.course.Course.{Course}
use Rattle.css_gen.proofs.Draws.{draw-below}
use Rattle.css_gen.proofs.Clocks.{clock-range}
use Rattle.css_gen.proofs.Bounds.{course-small}

-- ---- what is drawn
pub asked-range : (course : Course) → CanHappen course → IsVerb (asked course).verb
asked-range course h = clock-range course.own_fast course.time h.time

-- a number that is drawn back from the last one
back-range : (last back : ℕ) → back < last → last < 2 ^ 26 → IsOrdinal (last - back)
back-range last back some few = record { low = omega arith; high = omega arith }

taken-range : (course : Course) → CanHappen course → IsVerb (taken course).verb
taken-range course h = by (course.requests == 0) refl
  where
    by : (b : Bool) → (course.requests == 0) ≡ b
        → IsVerb (if b then asked course else taken_back course (draw (min course.requests 4) course.words)).verb
    by true e = asked-range course h
    by false e =
        let some = eqb-false course.requests 0 e in
        let below = draw-below (min course.requests 4) course.words (omega (arith, some)) in
        let few = h.requests in
        record {
          number = back-range course.requests (draw (min course.requests 4) course.words).number (omega (arith, below))
              (omega (arith, few));
          reading = clock-range course.tv_fast course.time h.time;
        }

given-range : (course : Course) → CanHappen course → IsVerb (given course).verb
given-range course h = by (course.answers == course.takes)
  where
    by : (b : Bool) → IsVerb (if b then asked course else given_next course).verb
    by true = asked-range course h
    by false =
        let few = h.takes in
        let answers = h.answers in
        record {
          number = record { low = omega arith; high = omega (arith, few, answers) };
          reading = clock-range course.tv_fast course.time h.time;
        }

landed-range : (course : Course) → CanHappen course → IsVerb (landed course).verb
landed-range course h = by (course.answers == 0) refl
  where
    by : (b : Bool) → (course.answers == 0) ≡ b
        → IsVerb (if b then asked course else landed_back course (draw (min (2 * course.answers) 8) course.words)).verb
    by true e = asked-range course h
    by false e =
        let some = eqb-false course.answers 0 e in
        let below = draw-below (min (2 * course.answers) 8) course.words (omega (arith, some)) in
        let few = h.takes in
        let answers = h.answers in
        record {
          number = back-range (2 * course.answers) (draw (min (2 * course.answers) 8) course.words).number
              (omega (arith, below)) (omega (arith, few, answers));
          reading = clock-range course.own_fast course.time h.time;
        }

pub chosen-range : (choice : ℕ) (course : Course) → CanHappen course → IsVerb (chosen choice course).verb
unfolding chosen
chosen-range choice course h = by (nat_lt choice 2) (choice == 2) (choice == 3) (nat_lt choice 6)
  where
    by : (a b c d : Bool) → IsVerb
        (if a then asked course
        else if b then taken course
        else if c then given course
        else if d then landed course
        else printed course).verb
    by true b c d = asked-range course h
    by false true c d = taken-range course h
    by false false true d = given-range course h
    by false false false true = landed-range course h
    by false false false false = clock-range course.own_fast course.time h.time

-- true time grows by less than 10 milliseconds
pub later-can : (course : Course) → IsSmall course → CanHappen (later course)
unfolding later
later-can course h =
    let below = draw-below 9000000 course.words (omega arith) in
    let time = h.time in
    record { time = omega (arith, below, time); requests = h.requests; takes = h.takes; answers = h.answers }

happening-range : (course : Course) → CanHappen course → IsVerb (happening course).verb
unfolding happening
happening-range course h =
    let choice = draw 8 course.words in
    chosen-range choice.number (record course { words = choice.left })
    (record { time = h.time; requests = h.requests; takes = h.takes; answers = h.answers })

-- the next line is in range
pub next-range : (course : Course) → IsSmall course → IsLine (next_line course)
next-range course h =
    let can = later-can course h in
    let time = can.time in
    record {
      t = omega (arith, time);
      w = clock-range (later course).tv_fast (later course).time can.time;
      l = clock-range (later course).own_fast (later course).time can.time;
      verb = happening-range (later course) can;
    }

-- ---- texts
pub pts-utf8 : IsUtf8 pts
pts-utf8 = word-utf8 pts refl

pub stem-utf8 : IsUtf8 (codes "dvb://")
stem-utf8 = word-utf8 (codes "dvb://") refl

-- ---- the opening
pub verb-range : (number : ℕ) → IsVerb (opening_verb number)
unfolding opening_verb
verb-range number =
    by (number == 2) (number == 3) (number == 4) (number == 5) (number == 6) (number == 7) (number == 8)
  where
    one : IsOrdinal 1
    one = record { low = omega arith; high = omega arith }

    rate : IsTickRate (record { units_per_tick = 1; units_per_second = 90000 })
    rate = record {
      tick_positive = omega arith;
      tick_small = omega arith;
      second_positive = omega arith;
      second_small = omega arith;
    }

    by : (a b c d e f g : Bool) → IsVerb
        (if a then Programme (codes "dvb://1.2.3")
        else if b then Timeline 1 pts (record { units_per_tick = 1; units_per_second = 90000 }) (pos 0)
        else if c then Viewer 1000000000 (Change 1)
        else if d then Opening Cii
        else if e then Bring Cii
        else if f then Opening Ts
        else if g then Up
        else Bring Ts)
    by true b c d e f g = record { word = refl; utf8 = word-utf8 (codes "dvb://1.2.3") refl }
    by false true c d e f g = record {
      programme = one;
      selector = record { word = refl; utf8 = pts-utf8 };
      rate = rate;
      base = omega arith;
    }
    by false false true d e f g = record { reading = omega arith; command = one }
    by false false false true e f g = tt
    by false false false false true f g = tt
    by false false false false false true g = tt
    by false false false false false false true = tt
    by false false false false false false false = tt

pub opening-range : (number : ℕ) → IsLine (opening_line number)
opening-range number = record { t = omega arith; w = omega arith; l = omega arith; verb = verb-range number }

-- ---- both
pub line-range : (seed number : ℕ) → number ≤ 200000 → IsLine (line_numbered seed number)
unfolding line_numbered
line-range seed number few = by (nat_lt number 10)
  where
    by : (b : Bool) → IsLine (if b then opening_line number else next_line (course_before seed number))
    by true = opening-range number
    by false = next-range (course_before seed number) (course-small seed (number - 10) (omega (arith, few)))
