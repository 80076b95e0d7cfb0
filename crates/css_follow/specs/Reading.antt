-- How the reader of a sheet stands for the lines that it has taken.
use Rattle.std.specs.Prelude.{◌≡◌, ℕ, if◌then◌else◌, List, [], ◌∷◌, ◌++◌, Some, Result, Ok, Err}
use Rattle.css_lines.specs.declared.reader.LineFault.{LineFault}
use Rattle.css_lines.specs.declared.reader.LineFault.TheVariants.{Refused}
use Rattle.css_follow.specs.declared.line.Form.{Form}
use Rattle.css_follow.specs.declared.line.SheetLine.{SheetLine}
use Rattle.css_follow.specs.declared.line.SheetLine.TheVariants.{Announce, Measure}
use Rattle.css_follow.specs.declared.reading.SheetLines.{SheetLines}
use Rattle.css_follow.specs.declared.sheet.Sheet.{Sheet}
use Rattle.css_follow.specs.Sheets.{has_room, sheet_of}

-- a sheet with one more line
abbrev pub grown : Sheet → SheetLine → Sheet
grown sheet (Announce cue) = record { cues = sheet.cues ++ cue ∷ []; meter = sheet.meter }
grown sheet (Measure count) = record { cues = sheet.cues; meter = Some count }

-- the same, where the line may stand there
abbrev pub with_line : Sheet → SheetLine → Result Sheet (LineFault Form)
with_line sheet line = if has_room sheet line then Ok (grown sheet line) else Err (Refused (record {}))

-- the reader stands for these lines: it has their sheet
abbrev pub Stands : SheetLines → List (List ℕ) → Type 0
Stands lines before = lines.sheet ≡ sheet_of before
