-- What a survey counts of the lines of a schedule: the reports that a replay prints for them.
use Rattle.std.specs.Prelude.{ℕ, ℤ, ◌+◌, ◌-◌, ◌-ℤ◌, unsigned_abs, max, List, [], ◌∷◌, ◌++◌, Option, Some}
use Rattle.std.specs.Prelude.{None}
use Rattle.std.specs.Prelude.{codes, decimal}
use Rattle.std.specs.Option.{option_map, option_to_list}
use Rattle.css_companion.specs.Printed.{line_of}
use Rattle.css_companion.specs.declared.report.Report.{Report}
use Rattle.css_companion.specs.declared.report.Report.TheVariants.{Ticks}
use Rattle.css_schedule.specs.declared.header.Header.{Header}
use Rattle.css_schedule.specs.declared.line.Verb.{Verb}
use Rattle.css_schedule.specs.declared.line.Verb.TheVariants.{Print}
use Rattle.css_meaning.specs.Happened.{Numbered}
use Rattle.css_meaning.specs.Verdicts.{report_at, assigned_at}
use Rattle.css_survey.specs.declared.summary.Summary.{Summary}
use Rattle.css_survey.specs.Generated.{generated, header_for, heading}

-- ---- reports
-- a report of the companion, the number of its line, and the position that is printed beside it
pub record Told : Type 0 where
  pub number : ℕ
  pub report : Report
  pub position : Option ℤ

-- the companion's reading at which a verb asks for a report
abbrev pub asked_by : Verb → Option ℕ
asked_by (Print reading) = Some reading
asked_by _ = None

-- what is told at a line that asks for a report at a reading
abbrev pub told_by : Header → List Numbered → Numbered → ℕ → Told
told_by header older now reading = record {
  number = now.number;
  report = report_at now.line.who header older reading;
  position = assigned_at now.line.who header older now.line.w;
}

-- what is told at a line, where it asks for a report
abbrev pub told_at : Header → List Numbered → Numbered → Option Told
told_at header older now = option_map (told_by header older now) (asked_by now.line.verb)

-- all that is told at lines; in both lists the newest stands first
abbrev pub told_of : Header → List Numbered → List Told
told_of header [] = []
told_of header (now ∷ older) = option_to_list (told_at header older now) ++ told_of header older

-- the lines that are printed for reports
abbrev pub told_text : List Told → List ℕ
told_text [] = []
told_text (told ∷ older) = told_text older ++ line_of told.number told.report told.position

-- ---- counts
-- nothing was told
abbrev pub none_told : Summary
none_told = record { prints = 0; intervals = 0; widest = 0 }

-- one report more; the width of an interval is the distance of its ends
abbrev pub counted : Report → Summary → Summary
counted (Ticks low high) summary = record {
  prints = summary.prints + 1;
  intervals = summary.intervals + 1;
  widest = max summary.widest (unsigned_abs (high -ℤ low));
}
counted _ summary = record summary { prints = summary.prints + 1 }

-- a report more, if there is one
abbrev pub counted_with : Option Told → Summary → Summary
counted_with None summary = summary
counted_with (Some told) summary = counted told.report summary

-- how many reports there are, how many of them are intervals, and the greatest width of these
abbrev pub summary_of : List Told → Summary
summary_of [] = none_told
summary_of (told ∷ older) = counted told.report (summary_of older)

-- ---- generated schedules
-- What is told at the lines of a generated schedule of so many companions. Its first lines are the header.
unfoldable pub told_in : (seed companions lines : ℕ) → List Told
told_in seed companions lines = told_of (header_for companions) (generated seed companions (lines - heading companions))

-- `lines N prints P intervals I widest W`
abbrev pub summary_line : (lines : ℕ) → Summary → List ℕ
summary_line lines summary =
    codes "lines " ++ decimal lines ++ codes " prints " ++ decimal summary.prints
    ++ codes " intervals " ++ decimal summary.intervals ++ codes " widest " ++ decimal summary.widest ++ codes "\n"

-- what a survey of a generated schedule writes; the reports of all companions are counted together
abbrev pub survey_text : (seed companions lines : ℕ) → List ℕ
survey_text seed companions lines = summary_line lines (summary_of (told_in seed companions lines))
