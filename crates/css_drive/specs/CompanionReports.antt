-- The reports that fall due in the history of a companion's run, and what the sink holds of them.
use Rattle.std.specs.Prelude.{◌≡◌, ℕ, ◌+◌, ◌*◌, nat_le, List, [], ◌∷◌, ◌++◌, length, Bool, false, if◌then◌else◌, Option}
use Rattle.std.specs.Prelude.{Some, None}
use Rattle.css_model.specs.History.{History}
use Rattle.css_outside.specs.Bytes.{IsPrefix}
use Rattle.css_companion.specs.Headline.{IsPromised}
use Rattle.css_companion.specs.Meanings.{report_after}
use Rattle.css_companion.specs.Printed.{line_of}
use Rattle.css_companion.specs.declared.report.Report.{Report}
use Rattle.css_drive.specs.CompanionTurns.{turn_at, first_turn}
use Rattle.css_drive.specs.declared.config.DriveConfig.{DriveConfig}
use Rattle.css_drive.specs.declared.driven.Driven.{Driven}
use Rattle.css_drive.specs.declared.driven.Driven.TheVariants as driven

-- ---- which reports are due
-- At this reading of a turn the report after so many is due, where the first turn had the reading `first`, and one
-- report is due every so often. None is due at the first turn itself.
abbrev pub is_due : ℕ → ℕ → Option ℕ → ℕ → Bool
is_due every reading None count = false
is_due every reading (Some first) count = nat_le (first + (count + 1) * every) reading

-- what the companion reports at a reading after a history
abbrev pub report_at : DriveConfig → History → ℕ → Report
report_at config history reading =
    report_after config.companion.local config.companion.selector history reading

-- the reports, with that of a turn that begins with this reading
abbrev pub with_report : DriveConfig → Option ℕ → History → Option ℕ → List Report → List Report
with_report config None older first reports = reports
with_report config (Some reading) older first reports =
    if is_due config.report_every reading first (length reports) then report_at config older reading ∷ reports
    else reports

-- The reports that were due, the newest first: each is that of the history up to its Turn reading.
abbrev pub due_reports : DriveConfig → History → List Report
due_reports config [] = []
due_reports config (entry ∷ older) =
    with_report config (turn_at entry) older (first_turn older) (due_reports config older)

-- ---- what is promised of them
-- the headline, of the report of a turn that begins with this reading
abbrev pub IsPromisedAt : DriveConfig → Option ℕ → History → Type 0
IsPromisedAt config None older = Unit {0}
IsPromisedAt config (Some reading) older =
    IsPromised config.companion.local config.companion.selector older reading (report_at config older reading)

-- each report that a turn may make keeps the promise
abbrev pub KeepsPromises : DriveConfig → History → Type 0
KeepsPromises config [] = Unit {0}
KeepsPromises config (entry ∷ older) = IsPromisedAt config (turn_at entry) older × KeepsPromises config older

-- ---- what is written
-- What is written of some reports: the line of each, with its number from 1, and then what the followers said of it.
-- Both lists have the newest first.
abbrev pub written : List Report → List (List ℕ) → List ℕ
written [] said = []
written (report ∷ reports) [] = written reports []
written (report ∷ reports) (words ∷ said) =
    written reports said ++ (line_of (length reports + 1) report None ++ words)

abbrev pub all_but_newest : {A : Type 0} → List A → List A
all_but_newest [] = []
all_but_newest (newest ∷ older) = older

-- a part of what is written of these reports, in which all of them are whole but for the newest
pub record IsPart (reports : List Report) (said : List (List ℕ)) (bytes : List ℕ) : Type 0 where
  pub within : IsPrefix bytes (written reports said)
  pub earlier : IsPrefix (written (all_but_newest reports) (all_but_newest said)) bytes

-- What a run that ended so has written of its reports: all, but where a write failed or memory ran out.
abbrev pub HasWritten : List Report → List (List ℕ) → List ℕ → Driven → Type 0
HasWritten reports said bytes driven.WriteFault = IsPart reports said bytes
HasWritten reports said bytes driven.Memory = IsPart reports said bytes
HasWritten reports said bytes _ = bytes ≡ written reports said
