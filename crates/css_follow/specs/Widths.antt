-- How wide the first intervals are. Lists of reports have the newest first.
use Rattle.std.specs.Prelude.{ℕ, ◌-ℤ◌, Bool, false, true, nat_lt, nat_le, if◌then◌else◌, List, [], ◌∷◌, ◌++◌, codes}
use Rattle.std.specs.Fmt.{signed_decimal}
use Rattle.std.specs.List.{count_by}
use Rattle.css_companion.specs.declared.report.Report.{Report}
use Rattle.css_companion.specs.declared.report.Report.TheVariants.{Ticks, None}

-- the report has an interval
abbrev pub is_interval : Report → Bool
is_interval (Ticks lo hi) = true
is_interval (None cause) = false

-- how many of these reports have one
abbrev pub intervals : List Report → ℕ
intervals heard = count_by is_interval heard

-- the line that tells a report's width
abbrev pub width_line : Report → List ℕ
width_line (Ticks lo hi) = codes "width " ++ signed_decimal (hi -ℤ lo) ++ 10 ∷ []
width_line (None cause) = []

-- what is said at a report, where so many intervals are measured and these reports were heard before
abbrev pub measured : ℕ → List Report → Report → List ℕ
measured count heard report = if nat_lt (intervals heard) count then width_line report else []

-- so many intervals were measured
abbrev pub are_measured : ℕ → List Report → Bool
are_measured count heard = nat_le count (intervals heard)
