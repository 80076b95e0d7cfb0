-- What a sink holds of a run's reports, and what its followers heard, as the notes of the run come.
use Rattle.std.specs.Prelude.{◌≡◌, ◌⊎◌, ℕ, ◌+◌, List, [], ◌∷◌, ◌++◌, length, Option, Some, None}
use Rattle.std.specs.Io.KnownBytes.{Appends}
use Rattle.css_outside.specs.Bytes.{AppendsPrefix}
use Rattle.css_outside.specs.Faults.{CountsOutFault}
use Rattle.css_outside.specs.declared.fault.OutFault.{OutFault}
use Rattle.css_companion.specs.Printed.{line_of}
use Rattle.css_companion.specs.declared.report.Report.{Report}
use Rattle.css_drive.specs.CompanionReports.{written, HasWritten}
use Rattle.css_drive.specs.CompanionRun.{HasFollowed, HearFirst, after_all, said_of}
use Rattle.css_follow.specs.Listening.{Listener, HearEach}
use Rattle.css_drive.specs.Notes.{Note, Happened, Reported}
use Rattle.css_drive.specs.declared.driven.Driven.{Driven}
use Rattle.css_drive.specs.declared.driven.Driven.TheVariants as driven

-- ---- one report
-- what a sink holds, and what its followers heard
pub record Audience : Type 0 where
  pub holds : Option (List ℕ)
  pub heard : List Listener

abbrev pub audience : Option (List ℕ) → List Listener → Audience
audience holds heard = record { holds = holds; heard = heard }

-- A report's line was written, with what the followers said of it.
pub record IsWritten (was is : Audience) (number : ℕ) (report : Report) : Type 0 where
  pub words : List ℕ
  pub grew : Appends was.holds is.holds (line_of number report None ++ words)
  pub heard : HearEach report was.heard is.heard words

-- A report was written in part, or not at all.
pub record IsPartlyWritten (was is : Audience) (number : ℕ) (report : Report) : Type 0 where
  pub words : List ℕ
  pub grew : AppendsPrefix was.holds is.holds (line_of number report None ++ words)
  pub heard : HearEach report was.heard is.heard words ⊎ HearFirst report was.heard is.heard words

-- the sink's faults of an observer that is over, or isn't
abbrev pub CountsOver : Option OutFault → ℕ → ℕ → Type 0
CountsOver None before now = now ≡ before
CountsOver (Some fault) before now = CountsOutFault before now fault

-- a report was written, or a part of it where the write failed
abbrev pub Writes : Option OutFault → Audience → Audience → ℕ → Report → Type 0
Writes None was is number report = IsWritten was is number report
Writes (Some fault) was is number report = IsPartlyWritten was is number report

-- ---- all reports
-- the reports among notes
abbrev pub reports_in : List Note → List Report
reports_in [] = []
reports_in (Happened from event ∷ notes) = reports_in notes
reports_in (Reported from number report ∷ notes) = report ∷ reports_in notes

-- each report has its number
abbrev pub AreNumbered : List Note → Type 0
AreNumbered [] = Unit {0}
AreNumbered (Happened from event ∷ notes) = AreNumbered notes
AreNumbered (Reported from number report ∷ notes) = (number ≡ length (reports_in notes) + 1) × AreNumbered notes

-- The sink holds these reports with what the followers say of them, and the followers heard them.
pub record HasTold (started now : Audience) (reports : List Report) : Type 0 where
  pub grew : Appends started.holds now.holds (written reports (said_of reports started.heard))
  pub heard : now.heard ≡ after_all reports started.heard

-- these reports were written and heard, or a part of them where the run ended so
pub record HasToldTo (ended : Driven) (started now : Audience) (reports : List Report) : Type 0 where
  pub said : List (List ℕ)
  pub bytes : List ℕ
  pub grew : Appends started.holds now.holds bytes
  pub wrote : HasWritten reports said bytes ended
  pub listened : HasFollowed reports said started.heard now.heard ended

-- all reports were told, or all but a part of the newest where a write failed or memory ran out
abbrev pub TellsAll : Option OutFault → Audience → Audience → List Report → Type 0
TellsAll None started now reports = HasTold started now reports
TellsAll (Some fault) started now reports = HasToldTo driven.WriteFault started now reports

-- The reports among these notes were told, and the sink's faults are counted.
abbrev pub Tells : Option OutFault → Audience → Audience → ℕ → ℕ → List Note → Type 0
Tells over started now was is notes =
    (AreNumbered notes → TellsAll over started now (reports_in notes)) × CountsOver over was is
