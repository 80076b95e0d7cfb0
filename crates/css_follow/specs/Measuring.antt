-- What `Meter` says of reports, by the number of intervals that its sheet asks for.
use Rattle.std.specs.Prelude.{ℕ, Bool, List, ◌∷◌, Option, Some, None}
use Rattle.css_companion.specs.declared.report.Report.{Report}
use Rattle.css_follow.specs.Following.{Seen, Plan, says_by, ends_by}
use Rattle.css_follow.specs.Widths.{measured, are_measured}

-- how many intervals it measures, and what there is to see of it
pub record Measuring : Type 0 where
  pub count : ℕ
  pub seen : Seen

-- without a meter in its sheet it measures none
abbrev pub count_of : Option ℕ → ℕ
count_of None = 0
count_of (Some count) = count

-- it says how wide an interval is, and is done when so many were measured
abbrev pub plan_of : ℕ → Plan
plan_of count = record { says = measured count; ends = λ heard report. are_measured count (report ∷ heard) }

-- so it does until it is done
abbrev pub says_of : Measuring → Report → List ℕ
says_of meter report = says_by (plan_of meter.count) meter.seen report

abbrev pub ends_of : Measuring → Report → Bool
ends_of meter report = ends_by (plan_of meter.count) meter.seen report
