-- Whether a line of a record is right after the lines before it, and why not.
use Rattle.std.specs.Prelude.{ℕ, pos, ◌≡◌, ◌+◌, ◌-◌, ◌++◌, nat_lt, ⊤, Bool, if◌then◌else◌, List, [], ◌∷◌}
use Rattle.std.specs.Prelude.{Option, Some, None, Result, Ok, Err, bytes_eq}
use Rattle.css_model.specs.WallClock.{Local}
use Rattle.css_cii.specs.declared.state.State.{State}
use Rattle.css_companion.specs.Contents.{next_number, told}
use Rattle.css_companion.specs.Meanings.{texts_of, state_of, report_after}
use Rattle.css_companion.specs.Printed as companions
use Rattle.css_companion.specs.declared.fault.CompanionFault.{CompanionFault}
use Rattle.css_companion.specs.declared.report.Report.{Report}
use Rattle.css_schedule.specs.declared.fault.LineFault.{LineFault}
use Rattle.css_audit.specs.Entries.{history_in, last_in, slept_in, turn_in, reports_in}
use Rattle.css_audit.specs.Faults.{told_fault}
use Rattle.css_audit.specs.declared.place.LastReading.{LastReading}
use Rattle.css_audit.specs.declared.fault.AuditFault.{AuditFault}
use Rattle.css_audit.specs.declared.fault.AuditFault.TheVariants as fault
use Rattle.css_audit.specs.declared.input.RecordLine.{RecordLine}
use Rattle.css_audit.specs.declared.input.RecordLine.TheVariants as lines

-- a line is right, or this is wrong with it
abbrev pub Verdict : Type 0
Verdict = Result (Unit {0}) AuditFault

-- ---- readings
-- the least reading after one, by whether the companion slept in between: a clock that stood still is above it
abbrev pub least_after : ℕ → Bool → ℕ
least_after reading slept = if slept then reading + 1 else reading

-- a reading isn't below the least one
abbrev pub order_after : LastReading → Bool → ℕ → Verdict
order_after last slept reading =
    if nat_lt reading (least_after last.reading slept)
    then Err (fault.Broken last.line (pos (least_after last.reading slept - reading))) else Ok tt

-- the first reading is in order
abbrev pub order_of : Option LastReading → Bool → ℕ → Verdict
order_of None slept reading = Ok tt
order_of (Some last) slept reading = order_after last slept reading

-- ---- texts of the CII session
-- by what a text makes of the state
abbrev pub cii_verdict : Result State CompanionFault → Verdict
cii_verdict (Ok state) = Ok tt
cii_verdict (Err refused) = Err (told_fault refused)

-- ---- reports
-- these words are the line of that report, which is the one with the number
abbrev pub report_verdict : ℕ → Report → List ℕ → Verdict
report_verdict number right words =
    if bytes_eq (words ++ 10 ∷ []) (companions.line_of number right None) then Ok tt else Err (fault.WrongReport right)

-- the report that is due at the reading of a turn after these lines
abbrev pub right_after : Local → List ℕ → List RecordLine → ℕ → Report
right_after own selector older reading = report_after own selector (history_in older) reading

-- a report stands directly after a turn
abbrev pub report_at : Local → List ℕ → List RecordLine → Option ℕ → List ℕ → Verdict
report_at own selector older None words = Err fault.Absent
report_at own selector older (Some reading) words =
    report_verdict (next_number (reports_in older)) (right_after own selector older reading) words

-- ---- lines
-- of a companion with this clock that wants the timeline with this selector
abbrev pub line_verdict : Local → List ℕ → List RecordLine → RecordLine → Verdict
line_verdict own selector older lines.Slept = Ok tt
line_verdict own selector older (lines.Turn reading) = order_of (last_in older) (slept_in older) reading
line_verdict own selector older (lines.Ask reading) = order_of (last_in older) (slept_in older) reading
line_verdict own selector older (lines.Land reading bytes) = order_of (last_in older) (slept_in older) reading
line_verdict own selector older (lines.Cii bytes) =
    cii_verdict (told (next_number (texts_of (history_in older))) (state_of (history_in older)) bytes)
line_verdict own selector older (lines.Ts bytes) = Ok tt
line_verdict own selector older lines.ClosedCii = Ok tt
line_verdict own selector older lines.ClosedTs = Ok tt
line_verdict own selector older (lines.Report words) = report_at own selector older (turn_in older) words

-- of what bytes were read as
abbrev pub read_verdict : Local → List ℕ → List RecordLine → Result RecordLine LineFault → Verdict
read_verdict own selector older (Ok line) = line_verdict own selector older line
read_verdict own selector older (Err unread) = Err fault.Form

-- lines with one more, if it was read
abbrev pub with_line : List RecordLine → Result RecordLine LineFault → List RecordLine
with_line older (Ok line) = line ∷ older
with_line older (Err unread) = older

-- ---- what a yes says
-- The words of a report, which stands directly after a turn, are the line that the companion is to print at the turn's
-- reading by what was told before. Its number is one more than that of the reports before it.
pub record IsRightReport (own : Local) (selector : List ℕ) (older : List RecordLine) (words : List ℕ) : Type 0 where
  pub reading : ℕ
  pub after_turn : turn_in older ≡ Some reading
  pub right : words ++ 10 ∷ []
      ≡ companions.line_of (next_number (reports_in older)) (right_after own selector older reading) None

abbrev pub IsRight : Local → List ℕ → List RecordLine → RecordLine → Type 0
IsRight own selector older (lines.Report words) = IsRightReport own selector older words
IsRight own selector older _ = ⊤

-- each report of the lines is right
abbrev pub AreRight : Local → List ℕ → List RecordLine → Type 0
AreRight own selector [] = ⊤
AreRight own selector (now ∷ older) = IsRight own selector older now × AreRight own selector older
