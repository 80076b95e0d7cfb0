-- How the reader of answers stands for the lines that it has taken.
use Rattle.std.specs.Prelude.{ℕ, pos, ◌≡◌, ◌≤◌, ◌-◌, nat_lt, if◌then◌else◌, List, [], ◌∷◌, length, Some, None}
use Rattle.std.specs.Prelude.{Result, Ok, Err, MatchResult}
use Rattle.css_lines.specs.Answers.{MayFault}
use Rattle.css_lines.specs.declared.reader.LineFault.{LineFault}
use Rattle.css_lines.specs.declared.reader.LineFault.TheVariants as faults
use Rattle.css_schedule.specs.declared.fault.LineFault as schedule
use Rattle.css_schedule.specs.declared.fault.LineFault.TheVariants as unread
use Rattle.css_agree.specs.declared.reader.Cause.{Cause}
use Rattle.css_agree.specs.declared.reader.Cause.TheVariants.{Form, Broken}
use Rattle.css_agree.specs.declared.reader.Agreeing.{Agreeing}
use Rattle.css_agree.specs.Agreeing.{Numbered, answers_in, lines_in, opened}
use Rattle.css_agree.specs.Inputs.{reading_of, local_of}
use Rattle.css_agree.specs.Keeping.{Kept, StandsFor}

-- what the engine is told of a line that was not read
abbrev pub unread_fault : schedule.LineFault → LineFault Cause
unread_fault unread.Form = faults.Refused Form
unread_fault unread.Memory = faults.Memory

-- what it is told of a reading that is below the last one
abbrev pub order_of : ℕ → ℕ → ℕ → Result (Unit {0}) (LineFault Cause)
order_of earlier last reading =
    if nat_lt reading last then Err (faults.Refused (Broken earlier (pos (last - reading)))) else Ok tt

-- a header opens an agreement of no answers, and anything else is refused
abbrev pub Opens : List ℕ → Result Kept (LineFault Cause) → Type 0
Opens text result = MatchResult result
    (λ agree. (local_of text ≡ Ok agree.local) × StandsFor agree [] × (agree.floor ≡ 0))
    (MayFault (opened (local_of text)))

-- The last of the lines has this number and reading. Where there is none, no reading is below the last one.
abbrev pub IsLast : List Numbered → ℕ → ℕ → Type 0
IsLast [] number reading = reading ≡ 0
IsLast (now ∷ older) number reading = (now.number ≡ number) × (reading_of now.line ≡ reading)

-- The agreement stands for the answers of the lines, the last of which has this number and reading.
pub record Keeps (agree : Kept) (lines : List Numbered) (number reading : ℕ) : Type 0 where
  pub stands : StandsFor agree (answers_in agree.local lines)
  pub last : IsLast lines number reading
  pub floor : agree.floor ≤ reading

-- The reader stands for these texts: it knows how many they are, the first is the header, and its agreement stands for
-- the others' lines.
abbrev pub Stands : Agreeing → List (List ℕ) → Type 0
Stands reader [] = (reader.last ≡ 0) × (reader.agree ≡ None) × (reader.reading ≡ 0)
Stands reader (first ∷ texts) = (reader.last ≡ length (first ∷ texts))
    × ((agree : Kept) × (reader.agree ≡ Some agree) × (local_of first ≡ Ok agree.local)
    × Keeps agree (lines_in texts) reader.last reader.reading)
