-- How a generator stands for the lines that it has given.
use Rattle.std.specs.Prelude.{ℕ, ◌≡◌, ◌≤◌, ◌-◌, ◌==◌, nat_lt, if◌then◌else◌, Bool, true, false, List, length, ⊤}
use Rattle.css_schedule.specs.declared.line.Line.{Line}
use Rattle.css_schedule.specs.declared.line.Verb.{Verb}
use Rattle.css_schedule.specs.declared.line.Verb.TheVariants.{Take}
use Rattle.css_gen.specs.Bounds.{most_lines, IsSmall, CanHappen}
use Rattle.css_gen.specs.Course.{next_course, course_after}
use Rattle.css_gen.specs.Crowd.{crowd_after}
use Rattle.css_gen.specs.Generated.{line_from, text_from}
use Rattle.css_gen.specs.Second.{openings, second_line_from, second_text_from, crowd_from}
use Rattle.css_gen.specs.declared.course.Course.{Course}
use Rattle.css_gen.specs.declared.crowd.Crowd.{Crowd}
use Rattle.css_gen.specs.declared.crowd.Turn.{Turn}

-- ---- several companions
-- there may be so many companions
pub record AreSome (companions : ℕ) : Type 0 where
  pub low : 1 ≤ companions
  pub high : companions ≤ 16

-- A line more fits the types of the numbers, and it is known who sent each request and what was taken.
pub record IsReady (crowd : Crowd) : Type 0 where
  pub companions : AreSome crowd.companions
  pub course : IsSmall crowd.course
  pub senders : length crowd.senders ≡ crowd.course.requests
  pub askers : length crowd.askers ≡ crowd.course.takes

-- so it is at a turn
pub record CanTurn (crowd : Crowd) (turn : Turn) : Type 0 where
  pub who : AreSome turn.who
  pub course : CanHappen turn.course
  pub askers : turn.course.answers ≤ length crowd.askers

-- what is taken is one of so many requests
abbrev pub IsKnown : (requests : ℕ) → Verb → Type 0
IsKnown requests (Take request reading) = (1 ≤ request) × (request ≤ requests)
IsKnown requests _ = ⊤

-- ---- one companion, or several
-- the course after the line of that number
abbrev pub course_from : Course → ℕ → Course
course_from course number = if nat_lt number 10 then course else next_course course

-- the crowd after it; with one companion, only its course goes on
abbrev pub crowd_with : Crowd → (number : ℕ) → Crowd
crowd_with crowd number =
    if crowd.companions == 1 then record crowd { course = course_from crowd.course number } else crowd_from crowd number

-- the text of that line
abbrev pub text_with : Crowd → (number : ℕ) → List ℕ
text_with crowd number =
    if crowd.companions == 1 then text_from crowd.course number else second_text_from crowd number

-- the line of that number, after the header
abbrev pub line_with : Crowd → (number : ℕ) → Line
line_with crowd number =
    if crowd.companions == 1 then line_from crowd.course number else second_line_from crowd number

-- a line more can be given, by whether there is one companion
abbrev pub CanGive : Bool → Crowd → Type 0
CanGive true crowd = IsSmall crowd.course
CanGive false crowd = IsReady crowd

-- the crowd is that of the seed after so many lines
abbrev pub Follows : Bool → (seed given : ℕ) → Crowd → Type 0
Follows true seed given crowd = crowd.course ≡ course_after seed (given - 9)
Follows false seed given crowd = crowd ≡ crowd_after seed crowd.companions (given - openings crowd.companions)

-- the generator has this many lines in all, and its crowd is that of the seed after those that it has given
pub record IsGenerator (seed lines given : ℕ) (crowd : Crowd) : Type 0 where
  pub few : lines ≤ most_lines
  pub companions : AreSome crowd.companions
  pub follows : Follows (crowd.companions == 1) seed given crowd
