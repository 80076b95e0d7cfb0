-- How large the numbers of a course become.
use Rattle.std.proofs.Common.{ℕ, suc, zero, ◌*◌, ◌≤◌, arith}
use Rattle.std.proofs.lemmas.Bool.Decides.{nat_tests}
use Rattle.css_gen.specs.Draws.{draw}
use Rattle.css_gen.specs.Course.{chosen, started, later, happening, course_after}
use Rattle.css_gen.specs.Bounds.{IsWithin, IsSmall}
use Rattle.css_gen.specs.declared.course.Course.{Course}
use Rattle.css_gen.proofs.Draws.{draw-below}

-- true time has grown for one line more
pub record IsGrown (lines : ℕ) (course : Course) : Type 0 where
  pub time : course.time ≤ 9029999 * suc lines
  pub requests : course.requests ≤ lines
  pub takes : course.takes ≤ lines
  pub answers : course.answers ≤ course.takes

pub chosen-within : (choice lines : ℕ) (course : Course) → IsGrown lines course
    → IsWithin (suc lines) (chosen choice course).course
unfolding chosen
chosen-within choice lines course h =
    let time = h.time in
    let requests = h.requests in
    let takes = h.takes in
    let answers = h.answers in
    record { time = grind arith; requests = grind arith; takes = grind arith; answers = grind (arith, nat_tests) }

pub later-grown : (lines : ℕ) (course : Course) → IsWithin lines course → IsGrown lines (later course)
unfolding later
later-grown lines course h =
    let below = draw-below 9000000 course.words (omega arith) in
    record { time = omega arith; requests = h.requests; takes = h.takes; answers = h.answers }

happening-within : (lines : ℕ) (course : Course) → IsGrown lines course → IsWithin (suc lines) (happening course).course
unfolding happening
happening-within lines course h =
    let choice = draw 8 course.words in
    chosen-within choice.number lines (record course { words = choice.left })
    (record { time = h.time; requests = h.requests; takes = h.takes; answers = h.answers })

-- after so many lines no number is greater than they allow
pub course-within : (seed lines : ℕ) → IsWithin lines (course_after seed lines)
unfolding course_after started
course-within seed zero =
    record { time = omega arith; requests = omega arith; takes = omega arith; answers = omega arith }
course-within seed (suc lines) =
    happening-within lines (later (course_after seed lines))
    (later-grown lines (course_after seed lines) (course-within seed lines))

-- so those of the longest schedule fit their types
pub within-small : (lines : ℕ) (course : Course) → lines ≤ 200000 → IsWithin lines course → IsSmall course
within-small lines course few h =
    record { time = omega arith; requests = omega arith; takes = omega arith; answers = h.answers }

pub course-small : (seed lines : ℕ) → lines ≤ 200000 → IsSmall (course_after seed lines)
course-small seed lines few = within-small lines (course_after seed lines) few (course-within seed lines)
