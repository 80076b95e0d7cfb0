-- The lines of a schedule with their numbers raised by one, and what is said of them.
use Rattle.std.specs.Prelude.{ℕ, ℤ, ◌+◌, ◌^◌, ◌<◌, ◌≡◌, ◌⊎◌, List, [], ◌∷◌, ◌++◌, map, Option, Some, Result}
use Rattle.std.specs.Result.{result_map_both}
use Rattle.css_num.specs.Spans.{Interval}
use Rattle.css_num.specs.Words.{number_of}
use Rattle.css_companion.specs.Printed.{line_of}
use Rattle.css_companion.specs.declared.report.Report.{Report}
use Rattle.css_lines.specs.Progress.{HasNoFeed}
use Rattle.css_schedule.specs.Words.{words_of}
use Rattle.css_schedule.specs.declared.header.Header.{Header}
use Rattle.css_meaning.specs.declared.fault.WorldFault.{WorldFault}
use Rattle.css_meaning.specs.declared.fault.WorldFault.TheVariants.{Broken, Absent, Player, Memory}
use Rattle.css_meaning.specs.Happened.{Numbered}
use Rattle.css_meaning.specs.Printed.{wall_text}
use Rattle.css_meaning.specs.Verdicts.{line_meant}

-- ---- lines
-- a line with its number raised by one
abbrev pub raised_line : Numbered → Numbered
raised_line now = record { number = now.number + 1; line = now.line }

-- all lines with their numbers raised by one
abbrev pub raised_lines : List Numbered → List Numbered
raised_lines lines = map raised_line lines

-- ---- what is printed
-- What is printed for a line, but for the line's number: nothing, the span of the wall clock, or a report.
pub data Said : Type 0 where
  Nothing : Said
  Span : (span : Option Interval) → (wall : ℕ) → Said
  Reported : (report : Report) → (position : Option ℤ) → Said

-- the text of it, for the line of that number
abbrev pub said_text : ℕ → Said → List ℕ
said_text number Nothing = []
said_text number (Span span wall) = wall_text number span wall
said_text number (Reported report position) = line_of number report position

-- A text is one line, and a number is read off it: its first word. Its only line feed is at its end.
pub record IsReadOff (number : ℕ) (text : List ℕ) : Type 0 where
  pub line : List ℕ
  pub is : text ≡ line ++ 10 ∷ []
  pub free : HasNoFeed line
  pub word : List ℕ
  pub others : List (List ℕ)
  pub words : words_of line ≡ word ∷ others
  pub read : number < 2 ^ 64 → number_of word ≡ Some number

-- What is said at a line is nothing, or the line's number is read off it. So a text that is printed has one reading as
-- numbers and what is said beside them.
abbrev pub NumbersAreReadOff : Type 0
NumbersAreReadOff = (number : ℕ) (said : Said) → (said ≡ Nothing) ⊎ IsReadOff number (said_text number said)

-- ---- what is told of a refusal
-- the earlier line that a fault names has its number raised by one
abbrev pub raised_fault : WorldFault → WorldFault
raised_fault (Broken earlier excess) = Broken (earlier + 1) excess
raised_fault Absent = Absent
raised_fault (Player fault) = Player fault
raised_fault Memory = Memory

-- ---- the law
-- The line of that number and the next line mean the same: what is said, each under its own number, or the fault that
-- is told, with the earlier line's number raised by one.
pub record MeanAlike (number : ℕ) (meant next_meant : Result (List ℕ) WorldFault) : Type 0 where
  pub said : Result Said WorldFault
  pub first : meant ≡ result_map_both (said_text number) (λ fault. fault) said
  pub second : next_meant ≡ result_map_both (said_text (number + 1)) raised_fault said

-- Lines with their numbers raised by one mean the same as the lines, but for the numbers that are named.
abbrev pub NumbersDontMatter : Type 0
NumbersDontMatter = (header : Header) (older : List Numbered) (now : Numbered)
    → MeanAlike now.number (line_meant header older now) (line_meant header (raised_lines older) (raised_line now))
