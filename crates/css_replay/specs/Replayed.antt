-- What a replay makes of the lines of a schedule.
use Rattle.std.specs.Prelude.{ℕ, suc, ◌+◌, ◌==◌, if◌then◌else◌, List, [], ◌∷◌, length, Result, Ok, Err}
use Rattle.css_lines.specs.Meaning.{Meaning}
use Rattle.css_schedule.specs.declared.fault.LineFault.{LineFault}
use Rattle.css_schedule.specs.declared.header.CompanionLine.{CompanionLine}
use Rattle.css_schedule.specs.declared.header.Header.{Header}
use Rattle.css_schedule.specs.declared.header.Start.{Start}
use Rattle.css_schedule.specs.declared.header.Start.TheVariants.{One, Two}
use Rattle.css_schedule.specs.declared.line.Line.{Line}
use Rattle.css_schedule.specs.Headers.{header_of, companion_of, with_companion}
use Rattle.css_schedule.specs.Lines.{line_in}
use Rattle.css_meaning.specs.declared.fault.WorldFault.{WorldFault}
use Rattle.css_meaning.specs.declared.fault.WorldFault.TheVariants as world
use Rattle.css_meaning.specs.Happened.{Numbered}
use Rattle.css_meaning.specs.Verdicts.{line_meant}
use Rattle.css_replay.specs.declared.reader.Cause.{Cause}
use Rattle.css_replay.specs.declared.reader.Cause.TheVariants.{Form, Absent, Player, Broken}

-- ---- what is read
-- How far a schedule was read: not at all; the header of version 2, with the companions of the lines so far, of so many
-- in all; the whole header, the version, and the lines after it, the newest first; or a header that is none.
pub data Extent : Type 0 where
  Outset : Extent
  Opening : (header : Header) → (count : ℕ) → Extent
  Running : (header : Header) → (version : ℕ) → (lines : List Numbered) → Extent
  Unread : Extent

-- line 1 is read: version 1 has its one companion in it
abbrev pub started : Result Start LineFault → Extent
started (Ok (One header)) = Running header 1 []
started (Ok (Two header count)) = Opening header count
started (Err fault) = Unread

-- the header is whole with the last of so many companions
abbrev pub grown : Header → ℕ → Extent
grown header count = if length header.companions == count then Running header 2 [] else Opening header count

-- the header has one companion more
abbrev pub declared : Header → ℕ → Result CompanionLine LineFault → Extent
declared header count (Ok companion) = grown (with_companion header companion) count
declared header count (Err fault) = Unread

-- the companion that a text declares after those of a header
abbrev pub next_companion : Header → List ℕ → Result CompanionLine LineFault
next_companion header text = companion_of (length header.companions + 1) text

-- lines, the newest first, with one more of that number, if it was read
abbrev pub with_line : ℕ → List Numbered → Result Line LineFault → List Numbered
with_line number older (Ok line) = record { number = number; line = line } ∷ older
with_line number older (Err fault) = older

-- one text more was read, which is the line of that number
abbrev pub after : ℕ → Extent → List ℕ → Extent
after number Outset text = started (header_of text)
after number (Opening header count) text = declared header count (next_companion header text)
after number (Running header version lines) text =
    Running header version (with_line number lines (line_in version (length header.companions) text))
after number Unread text = Unread

-- texts were read, the first of which is the line of that number
abbrev pub read_from : ℕ → Extent → List (List ℕ) → Extent
read_from number extent [] = extent
read_from number extent (text ∷ texts) = read_from (suc number) (after number extent text) texts

-- so far a schedule is read by these texts
abbrev pub reached : List (List ℕ) → Extent
reached texts = read_from 1 Outset texts

-- ---- what is meant
-- what is printed for a line, or why it is refused; want of memory is never meant
abbrev pub caused : Result (List ℕ) WorldFault → Result (List ℕ) Cause
caused (Ok printed) = Ok printed
caused (Err (world.Broken earlier excess)) = Err (Broken earlier excess)
caused (Err world.Absent) = Err Absent
caused (Err (world.Player fault)) = Err (Player fault)
caused (Err world.Memory) = Err Form

-- a line that is read is carried out
abbrev pub read_meant : Header → List Numbered → ℕ → Result Line LineFault → Result (List ℕ) Cause
read_meant header older number (Err fault) = Err Form
read_meant header older number (Ok line) = caused (line_meant header older (record { number = number; line = line }))

-- nothing is printed for a line of the header
abbrev pub opened : {T : Type 0} → Result T LineFault → Result (List ℕ) Cause
opened (Ok value) = Ok []
opened (Err fault) = Err Form

-- what a text means, as the line of that number
abbrev pub meant_at : ℕ → Extent → List ℕ → Result (List ℕ) Cause
meant_at number Outset text = opened (header_of text)
meant_at number (Opening header count) text = opened (next_companion header text)
meant_at number (Running header version lines) text =
    read_meant header lines number (line_in version (length header.companions) text)
meant_at number Unread text = Err Form

-- an input that ends before its header is whole is refused
abbrev pub ended_at : Extent → Result (List ℕ) Cause
ended_at (Running header version lines) = Ok []
ended_at _ = Err Form

-- the version of the next line; line 1 counts as one of version 1
abbrev pub version_of : Extent → ℕ
version_of (Opening header count) = 2
version_of (Running header version lines) = version
version_of _ = 1

-- the greatest number of bytes of a line
abbrev pub longest_line : ℕ → ℕ
longest_line version = if version == 1 then 4096 else 4352

-- and of a schedule
abbrev pub longest_input : ℕ → ℕ
longest_input version = if version == 1 then 67108864 else 134217728

-- what a replay makes of its lines
abbrev pub replayed : Meaning Cause
replayed =
    record {
      longest_line = λ before. longest_line (version_of (reached before));
      longest_input = λ before. longest_input (version_of (reached before));
      line = λ before text. meant_at (length before + 1) (reached before) text;
      finish = λ before. ended_at (reached before);
    }
