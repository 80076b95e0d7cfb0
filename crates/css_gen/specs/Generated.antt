-- The lines of a generated schedule.
use Rattle.std.specs.Prelude.{ℕ, ◌+◌, ◌-◌, ◌==◌, nat_lt, if◌then◌else◌, List, Option, Some, None}
use Rattle.std.specs.Prelude.{replicate}
use Rattle.css_schedule.specs.declared.header.Header.{Header}
use Rattle.css_schedule.specs.declared.line.Line.{Line}
use Rattle.css_printed.specs.Printed.{header_text, line_text}
use Rattle.css_gen.specs.Course.{next_line, course_after}
use Rattle.css_gen.specs.declared.course.Course.{Course}
use Rattle.css_gen.specs.Opening.{header, companion, opening_line}
use Rattle.css_gen.specs.Second.{second_line, second_text}

-- the line of that number, from 2 on, where the lines after the opening have come to this course
abbrev pub line_from : Course → (number : ℕ) → Line
line_from course number = if nat_lt number 10 then opening_line number else next_line course

-- its text, without its line feed; line 1 is the header
abbrev pub text_from : Course → (number : ℕ) → List ℕ
text_from course number = if number == 1 then header_text header else line_text (line_from course number)

-- the course of a seed before the line of that number; the first line that is drawn is line 10
abbrev pub course_before : (seed : ℕ) → (number : ℕ) → Course
course_before seed number = course_after seed (number - 10)

-- the line of that number, from 2 on
unfoldable pub line_numbered : (seed : ℕ) → (number : ℕ) → Line
line_numbered seed number = line_from (course_before seed number) number

-- the text of the line of that number
unfoldable pub text_numbered : (seed : ℕ) → (number : ℕ) → List ℕ
text_numbered seed number = text_from (course_before seed number) number

-- the text of the line of that number in the schedule of so many companions; one of them has a schedule of version 1
abbrev pub text_in : (seed companions number : ℕ) → List ℕ
text_in seed companions number =
    if companions == 1 then text_numbered seed number else second_text seed companions number

-- ---- the header, and the lines after it
-- all companions are declared alike
abbrev pub header_for : (companions : ℕ) → Header
header_for companions = record header { companions = replicate companions companion }

-- So many lines declare it: with one companion the schedule is of version 1, and line 1 has the whole header.
abbrev pub heading : (companions : ℕ) → ℕ
heading companions = if companions == 1 then 1 else companions + 1

-- the line of that number, after the header
abbrev pub line_for : (seed companions number : ℕ) → Line
line_for seed companions number =
    if companions == 1 then line_numbered seed number else second_line seed companions number

-- ---- a generator
-- A generator: the seed of its lines, how many lines there are in all and of how many companions, and how many it has
-- given.
pub record Generator : Type 0 where
  pub seed : ℕ
  pub lines : ℕ
  pub companions : ℕ
  pub given : ℕ

-- the text of the line after those that were given
abbrev pub text_after : Generator → List ℕ
text_after generator = text_in generator.seed generator.companions (generator.given + 1)

-- the text that comes next, and None after the last one
abbrev pub next_text : Generator → Option (List ℕ)
next_text generator = if nat_lt generator.given generator.lines then Some (text_after generator) else None

-- the generator after that
abbrev pub after_next : Generator → Generator
after_next generator =
    if nat_lt generator.given generator.lines then record generator { given = generator.given + 1 } else generator
