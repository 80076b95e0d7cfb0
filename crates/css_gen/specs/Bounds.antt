-- How large the numbers of a generator are.
use Rattle.std.specs.Prelude.{ℕ, ◌≤◌, ◌<◌, ◌*◌, ◌^◌}
use Rattle.css_gen.specs.declared.course.Course.{Course}

-- a schedule has at most so many lines
abbrev pub most_lines : ℕ
most_lines = 200000

-- so many lines were generated, so no number is greater than they allow
pub record IsWithin (lines : ℕ) (course : Course) : Type 0 where
  pub time : course.time ≤ 9029999 * lines
  pub requests : course.requests ≤ lines
  pub takes : course.takes ≤ lines
  pub answers : course.answers ≤ course.takes

-- a line more fits the types of the numbers
pub record IsSmall (course : Course) : Type 0 where
  pub time : course.time < 2 ^ 42
  pub requests : course.requests < 2 ^ 24
  pub takes : course.takes < 2 ^ 24
  pub answers : course.answers ≤ course.takes

-- so does what happens next, once true time has grown
pub record CanHappen (course : Course) : Type 0 where
  pub time : course.time < 2 ^ 43
  pub requests : course.requests < 2 ^ 24
  pub takes : course.takes < 2 ^ 24
  pub answers : course.answers ≤ course.takes
