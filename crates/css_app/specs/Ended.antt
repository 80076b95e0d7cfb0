-- What the lines of a script say, and how a run ends over lines of which one is refused, or that writes a text.
use Rattle.std.specs.Prelude.{◌≡◌, ℕ, ◌≤◌, List, [], ◌∷◌, Option, Some, None, Result, Ok, Err, All}
use Rattle.std.specs.List.{flat_map}
use Rattle.std.specs.Io.KnownBytes.{Appends}
use Rattle.css_outside.specs.Bytes.{AppendsPrefix}
use Rattle.css_lines.specs.declared.reader.Refusal.{Refusal}
use Rattle.css_lines.specs.declared.reader.Refusal.TheVariants as refusals
use Rattle.css_lines.specs.Lines.{lines_of}
use Rattle.css_lines.specs.Meaning.{Meaning, outcome}
use Rattle.css_agree.specs.declared.reader.Cause as agree
use Rattle.css_agree.specs.declared.reader.Cause.TheVariants as agrees
use Rattle.css_audit.specs.declared.fault.AuditFault.{AuditFault}
use Rattle.css_audit.specs.declared.fault.AuditFault.TheVariants as audits
use Rattle.css_gen.specs.Second.{least_lines}
use Rattle.css_schedule.specs.Lines.{script_of}
use Rattle.css_schedule.specs.Ranges.{IsScriptLine}
use Rattle.css_schedule.specs.declared.fault.LineFault.{LineFault}
use Rattle.css_schedule.specs.declared.fault.LineWhy.{LineWhy}
use Rattle.css_schedule.specs.declared.fault.LineWhy.TheVariants.{Long, Form, Absent}
use Rattle.css_schedule.specs.declared.line.ScriptLine.{ScriptLine}
use Rattle.css_status.specs.declared.status.Status.{Status}
use Rattle.css_status.specs.declared.status.Status.TheVariants.{BadCii, BadLine, Broken, Done, Memory, Moved}
use Rattle.css_status.specs.declared.status.Status.TheVariants.{WriteFault, WrongReport}
use Rattle.css_app.specs.declared.inputs.NoLine.{NoLine}
use Rattle.css_app.specs.declared.inputs.ScriptLines.{ScriptLines}

-- ---- a script
-- a line prints nothing, or it is outside the grammar
abbrev pub admitted : Result ScriptLine LineFault → Result (List ℕ) NoLine
admitted (Ok line) = Ok []
admitted (Err fault) = Err (record {})

-- what becomes of the lines of a script: each has at most 4,096 bytes, and all have at most 67,108,864
abbrev pub script_lines : Meaning NoLine
script_lines = record {
  longest_line = λ before. 4096;
  longest_input = λ before. 67108864;
  line = λ before text. admitted (script_of text);
  finish = λ before. Ok [];
}

-- the line that was read, if it was
abbrev pub line_in : Result ScriptLine LineFault → List ScriptLine
line_in (Ok line) = line ∷ []
line_in (Err fault) = []

-- the lines of a script, in their order
unfoldable pub script_of_lines : List (List ℕ) → List ScriptLine
script_of_lines lines = flat_map (λ line. line_in (script_of line)) lines

-- why a line is refused: it is too long, or outside the grammar
abbrev pub why_of : {Cause : Type 0} → Refusal Cause → LineWhy
why_of refusals.Long = Long
why_of (refusals.Refused cause) = Form

-- the script, where no line is refused
abbrev pub unless_refused : Option (ℕ × Refusal NoLine) → List ScriptLine → Result (List ScriptLine) (ℕ × LineWhy)
unless_refused None lines = Ok lines
unless_refused (Some verdict) lines = Err (verdict.0, why_of verdict.1)

-- the script that bytes are; or the first line that is refused, with the cause
unfoldable pub script_in : List ℕ → Result (List ScriptLine) (ℕ × LineWhy)
script_in bytes = unless_refused (outcome script_lines bytes).verdict (script_of_lines (lines_of bytes))

-- ---- how the reader of a script stands for the lines that it has taken
-- it has the lines of the script
pub record Stands (reader : ScriptLines) (before : List (List ℕ)) : Type 0 where
  pub lines : reader.lines.items ≡ script_of_lines before
  pub each : All IsScriptLine reader.lines.items

-- ---- a line that is refused
-- of a script, or of a schedule that is migrated
abbrev pub line_refused : {Cause : Type 0} → ℕ → Refusal Cause → Status
line_refused line why = BadLine line (why_of why)

-- of answers
abbrev pub agree_refused : ℕ → Refusal agree.Cause → Status
agree_refused line refusals.Long = BadLine line Long
agree_refused line (refusals.Refused agrees.Form) = BadLine line Form
agree_refused line (refusals.Refused (agrees.Broken earlier excess)) = Broken line earlier excess

-- of a record
abbrev pub audit_refused : ℕ → Refusal AuditFault → Status
audit_refused line refusals.Long = BadLine line Long
audit_refused line (refusals.Refused audits.Form) = BadLine line Form
audit_refused line (refusals.Refused (audits.Broken earlier excess)) = Broken line earlier excess
audit_refused line (refusals.Refused audits.Absent) = BadLine line Absent
audit_refused line (refusals.Refused (audits.BadCii text fault)) = BadCii text fault
audit_refused line (refusals.Refused (audits.Moved property old new)) = Moved property old new
audit_refused line (refusals.Refused (audits.WrongReport right)) = WrongReport line right
audit_refused line (refusals.Refused audits.Memory) = Memory

-- ---- what is written whole
-- a schedule of so many companions and lines can be generated
pub record CanBeDrawn (companions lines : ℕ) : Type 0 where
  pub some : 1 ≤ companions
  pub few : companions ≤ 16
  pub least : least_lines companions ≤ lines
  pub most : lines ≤ 200000

-- The sink grew by the whole text, or by a front part of it where a write failed or memory ran out. There is no other
-- end.
abbrev pub Writes : List ℕ → Option (List ℕ) → Option (List ℕ) → Status → Type 0
Writes text holds_old holds_new Done = Appends holds_old holds_new text
Writes text holds_old holds_new WriteFault = AppendsPrefix holds_old holds_new text
Writes text holds_old holds_new Memory = AppendsPrefix holds_old holds_new text
Writes text holds_old holds_new _ = ⊥
