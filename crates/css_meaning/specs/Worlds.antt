-- The world of a schedule: its lines are its moments.
use Rattle.std.specs.Prelude.{ℕ, ◌==◌, ◌&&◌, not, nat_lt, if◌then◌else◌, List, [], ◌∷◌, length, Option, Some, None}
use Rattle.std.specs.List.{filter}
use Rattle.css_model.specs.World.{World, Moment, OwnClock, Errors}
use Rattle.css_schedule.specs.declared.header.Header.{Header}
use Rattle.css_schedule.specs.declared.line.Line.{Line}
use Rattle.css_schedule.specs.Owners.{is_sleep}
use Rattle.css_meaning.specs.Happened.{Numbered, history_of}
use Rattle.css_meaning.specs.Verdicts.{local_of}

-- how many times a companion slept at one of these lines
abbrev pub sleeps_of : ℕ → List Numbered → ℕ
sleeps_of who lines = length (filter (λ now. is_sleep now.line.verb && now.line.who == who) lines)

-- A line gives the clock of its companion, which slept so often up to the line, itself included. A line with the number
-- 0 gives none.
abbrev pub clock_of : Line → ℕ → ℕ → Option OwnClock
clock_of line sleeps who =
    if not (who == 0) && line.who == who then Some (record { value = line.l; sleeps = sleeps }) else None

-- the moment of a line after those before it
abbrev pub moment : List Numbered → Numbered → Moment
moment older now = record {
  time = now.line.t;
  wall = now.line.w;
  companion = λ who. clock_of now.line (sleeps_of who (now ∷ older)) who;
}

-- The world of lines, the newest of which stands first: a line's moment has the number of lines that came before it.
-- That of the last line stands for every later number, and where there is no line nothing is known.
abbrev pub world_of : List Numbered → World
world_of [] = λ i. record { time = 0; wall = 0; companion = λ who. None }
world_of (now ∷ older) = λ i. if nat_lt i (length older) then world_of older i else moment older now

-- the number of the moment at which companion `who` made the entry of that number
abbrev pub moment_number : ℕ → Header → List Numbered → ℕ → ℕ
moment_number who header [] = λ entry. 0
moment_number who header (now ∷ older) = λ entry.
    if nat_lt entry (length (history_of who header older)) then moment_number who header older entry else length older

-- the declared errors of the oscillators
abbrev pub errors_of : Header → Errors
errors_of header = record { tv = header.tv_error; companion = λ who. (local_of who header).error }
