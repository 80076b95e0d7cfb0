-- Which lines are generated after the opening, one after another.
use Rattle.std.specs.Prelude.{ℕ, suc, zero, ◌+◌, ◌-◌, ◌*◌, ◌/◌, ◌==◌, min, nat_lt, Bool, true, false, if◌then◌else◌}
use Rattle.css_schedule.specs.declared.line.Line.{Line}
use Rattle.css_schedule.specs.declared.line.Verb.{Verb}
use Rattle.css_schedule.specs.declared.line.Verb.TheVariants.{Ask, Take, Give, Land, Print}
use Rattle.css_gen.specs.Draws.{words_of, draw, Drawn}
use Rattle.css_gen.specs.declared.course.Course.{Course}

-- ---- clocks
-- What a clock shows at a true time, in nanoseconds. It starts at one second, and its oscillator runs 50 ppm fast or
-- slow, which is 12,800 in 256,000,000. The value is rounded down.
unfoldable pub clock : (fast : Bool) → (time : ℕ) → ℕ
clock true time = 1000000000 + time + 12800 * time / 256000000
clock false time = 1000000000 + time - (12800 * time + 255999999) / 256000000

-- the television's wall clock
abbrev pub tv_clock : Course → ℕ
tv_clock course = clock course.tv_fast course.time

-- the companion's clock
abbrev pub own_clock : Course → ℕ
own_clock course = clock course.own_fast course.time

-- ---- the start
-- The first draw says whether the television's oscillator is fast, and the second whether the companion's is.
abbrev pub oscillating : Drawn → Drawn → Course
oscillating tv own = record {
  words = own.left;
  tv_fast = tv.number == 0;
  own_fast = own.number == 0;
  time = 0;
  requests = 0;
  takes = 0;
  answers = 0;
}

-- no request was sent, no take made and no answer given at true time 0
unfoldable pub started : ℕ → Course
started seed = oscillating (draw 2 (words_of seed)) (draw 2 (draw 2 (words_of seed)).left)

-- ---- what happens at a line
-- what happens, and the course after it
pub record Happening : Type 0 where
  pub verb : Verb
  pub course : Course

-- the companion sends one request more
abbrev pub asked : Course → Happening
asked course = record {
  verb = Ask (own_clock course);
  course = record course { requests = course.requests + 1 };
}

-- the television receives a request, which was sent so many before the last one
abbrev pub taken_back : Course → Drawn → Happening
taken_back course drawn = record {
  verb = Take (course.requests - drawn.number) (tv_clock course);
  course = record course { words = drawn.left; takes = course.takes + 1 };
}

-- the television receives one of the last four requests; where none was sent, one is
abbrev pub taken : Course → Happening
taken course =
    if course.requests == 0 then asked course
    else taken_back course (draw (min course.requests 4) course.words)

-- the television answers the first take that has no answer
abbrev pub given_next : Course → Happening
given_next course = record {
  verb = Give (course.answers + 1) (tv_clock course);
  course = record course { answers = course.answers + 1 };
}

-- where each take has its answer, a request is sent
abbrev pub given : Course → Happening
given course = if course.answers == course.takes then asked course else given_next course

-- a datagram lands, which was made so many before the last one; each answer makes two
abbrev pub landed_back : Course → Drawn → Happening
landed_back course drawn = record {
  verb = Land (2 * course.answers - drawn.number) (own_clock course);
  course = record course { words = drawn.left };
}

-- one of the last eight datagrams lands; where none was made, a request is sent
abbrev pub landed : Course → Happening
landed course =
    if course.answers == 0 then asked course
    else landed_back course (draw (min (2 * course.answers) 8) course.words)

-- the companion's report is printed
abbrev pub printed : Course → Happening
printed course = record { verb = Print (own_clock course); course = course }

-- what happens by a choice of 0 to 7
unfoldable pub chosen : (choice : ℕ) → Course → Happening
chosen choice course =
    if nat_lt choice 2 then asked course
    else if choice == 2 then taken course
    else if choice == 3 then given course
    else if nat_lt choice 6 then landed course
    else printed course

-- ---- one line after another
-- true time grows by 30 microseconds and up to 9 milliseconds more
unfoldable pub later : Course → Course
later course = let grown = draw 9000000 course.words in
    record course { words = grown.left; time = course.time + 30000 + grown.number }

-- what happens after that
unfoldable pub happening : Course → Happening
happening course = let choice = draw 8 course.words in
    chosen choice.number (record course { words = choice.left })

-- the course after one more line
abbrev pub next_course : Course → Course
next_course course = (happening (later course)).course

-- and that line
abbrev pub next_line : Course → Line
next_line course = record {
  t = (later course).time;
  w = tv_clock (later course);
  who = 1;
  l = own_clock (later course);
  verb = (happening (later course)).verb;
}

-- the course of a seed after so many lines
unfoldable pub course_after : (seed : ℕ) → (lines : ℕ) → Course
course_after seed zero = started seed
course_after seed (suc lines) = next_course (course_after seed lines)
