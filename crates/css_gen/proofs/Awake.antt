-- Generated lines are of version 1: each is of companion 1, and none is a sleep.
use Rattle.std.proofs.Common.{◌≡◌, ℕ, arith, refl, Bool, true, false, nat_lt, if◌then◌else◌}
use Rattle.css_schedule.specs.declared.line.Verb.{Verb}
use Rattle.css_schedule.specs.Owners.{is_sleep}
use Rattle.css_schedule.specs.Ranges.{IsFirst}
use Rattle.css_gen.specs.Draws.{draw}
use Rattle.css_gen.specs.Course.{chosen, later, happening, next_line}
use Rattle.css_gen.specs.Opening.{opening_verb, opening_line}
use Rattle.css_gen.specs.Generated.{course_before, line_numbered}
use Rattle.css_gen.specs.declared.course.Course.{Course}

abbrev IsAwake : Verb → Type 0
IsAwake verb = is_sleep verb ≡ false

chosen-awake : (choice : ℕ) (course : Course) → IsAwake (chosen choice course).verb
unfolding chosen
chosen-awake choice course = grind arith

-- the next line
pub next-first : (course : Course) → IsFirst (next_line course)
unfolding happening
next-first course =
    let choice = draw 8 (later course).words in
    record { who = refl; awake = chosen-awake choice.number (record (later course) { words = choice.left }) }

opening-awake : (number : ℕ) → IsAwake (opening_verb number)
unfolding opening_verb
opening-awake number = grind arith

-- a line of the opening
pub opening-first : (number : ℕ) → IsFirst (opening_line number)
opening-first number = record { who = refl; awake = opening-awake number }

-- ---- both
pub line-first : (seed number : ℕ) → IsFirst (line_numbered seed number)
unfolding line_numbered
line-first seed number = by (nat_lt number 10)
  where
    by : (b : Bool) → IsFirst (if b then opening_line number else next_line (course_before seed number))
    by true = opening-first number
    by false = next-first (course_before seed number)
