-- What the lines of a sheet say together, and which of them is outside the grammar.
use Rattle.std.specs.Prelude.{ℕ, Bool, nat_lt, if◌then◌else◌, List, [], ◌∷◌, length, Option, Some, None, is_none}
use Rattle.std.specs.Prelude.{Result, Ok, Err}
use Rattle.std.specs.List.{flat_map}
use Rattle.css_lines.specs.declared.reader.Refusal.{Refusal}
use Rattle.css_lines.specs.Lines.{lines_of}
use Rattle.css_lines.specs.Meaning.{Meaning, outcome}
use Rattle.css_follow.specs.declared.line.Form.{Form}
use Rattle.css_follow.specs.declared.line.SheetLine.{SheetLine}
use Rattle.css_follow.specs.declared.line.SheetLine.TheVariants.{Announce, Measure}
use Rattle.css_follow.specs.declared.sheet.Cue.{Cue}
use Rattle.css_follow.specs.declared.sheet.Sheet.{Sheet}
use Rattle.css_follow.specs.SheetLines.{Reading, line_of}

-- the most cues of a sheet
abbrev pub most_cues : ℕ
most_cues = 1000

-- the cue of a line, if it is one
abbrev pub cue_in : Reading → List Cue
cue_in (Ok (Announce cue)) = cue ∷ []
cue_in (Ok (Measure count)) = []
cue_in (Err fault) = []

-- the meter of a line, if it is one
abbrev pub meter_in : Reading → List ℕ
meter_in (Ok (Announce cue)) = []
meter_in (Ok (Measure count)) = count ∷ []
meter_in (Err fault) = []

-- the first, where there is one
abbrev pub first_of : List ℕ → Option ℕ
first_of [] = None
first_of (first ∷ more) = Some first

-- the sheet of these lines: its cues in their order, and its meter
unfoldable pub sheet_of : List (List ℕ) → Sheet
sheet_of lines = record {
  cues = flat_map (λ line. cue_in (line_of line)) lines;
  meter = first_of (flat_map (λ line. meter_in (line_of line)) lines);
}

-- the line may stand after those of the sheet: at most 1,000 are cues, and one is a meter
abbrev pub has_room : Sheet → SheetLine → Bool
has_room sheet (Announce cue) = nat_lt (length sheet.cues) most_cues
has_room sheet (Measure count) = is_none sheet.meter

-- a line prints nothing, or it is outside the grammar
abbrev pub admitted : Sheet → Reading → Result (List ℕ) Form
admitted sheet (Ok line) = if has_room sheet line then Ok [] else Err (record {})
admitted sheet (Err fault) = Err (record {})

-- what becomes of the lines of a sheet: each has at most 4,096 bytes, and all have at most 67,108,864
abbrev pub sheet_lines : Meaning Form
sheet_lines = record {
  longest_line = λ before. 4096;
  longest_input = λ before. 67108864;
  line = λ before text. admitted (sheet_of before) (line_of text);
  finish = λ before. Ok [];
}

-- the sheet, where no line is refused
abbrev pub unless_refused : Option (ℕ × Refusal Form) → Sheet → Result Sheet ℕ
unless_refused None sheet = Ok sheet
unless_refused (Some verdict) sheet = Err verdict.0

-- the sheet that bytes are, or the number of the first line that is outside the grammar
unfoldable pub sheet_in : List ℕ → Result Sheet ℕ
sheet_in bytes = unless_refused (outcome sheet_lines bytes).verdict (sheet_of (lines_of bytes))
