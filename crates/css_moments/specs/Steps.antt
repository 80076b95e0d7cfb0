-- What a drift does at a line, with the few numbers that it keeps.
use Rattle.std.specs.Prelude.{ℕ, ◌-◌, ◌<◌, ◌^◌, nat_lt, pos, ◌-ℤ◌, int_lt, unsigned_abs, if◌then◌else◌, Option, Some}
use Rattle.std.specs.Prelude.{None, Result, Ok, Err}
use Rattle.std.specs.Result.{result_and}
use Rattle.css_model.specs.declared.TheConstants.{F}
use Rattle.css_moments.specs.declared.fault.DriftFault.{DriftFault}
use Rattle.css_moments.specs.declared.fault.DriftFault.TheVariants.{Broken}
use Rattle.css_moments.specs.declared.kept.Last.{Last}
use Rattle.css_moments.specs.declared.kept.Least.{Least}
use Rattle.css_moments.specs.declared.kept.Extremes.{Extremes}
use Rattle.css_moments.specs.Numbers.{lead, lag}

-- the two numbers of a line
abbrev pub extremes_at : (error line time value : ℕ) → Extremes
extremes_at error line time value = record {
  lead = record { line = line; value = lead error time value };
  lag = record { line = line; value = lag error time value };
}

-- the lesser of two numbers; of equals that of the earlier line
abbrev pub lesser : (earlier later : Least) → Least
lesser earlier later = if int_lt later.value earlier.value then later else earlier

-- the least numbers of the earlier lines, if there are any, and of one more
abbrev pub after : (earlier : Option Extremes) → (now : Extremes) → Extremes
after None now = now
after (Some earlier) now = record { lead = lesser earlier.lead now.lead; lag = lesser earlier.lag now.lag }

-- A number may not rise by more than a nanosecond from its least one: what it rose beyond that is the excess.
abbrev pub test_rise : (least now : Least) → Result (Unit {0}) DriftFault
test_rise least now = if int_lt (pos 0) (now.value -ℤ least.value -ℤ pos F)
    then Err (Broken least.line (now.value -ℤ least.value -ℤ pos F)) else Ok tt

-- the test of a line against the last one
abbrev pub test_time : Option Last → (time : ℕ) → Result (Unit {0}) DriftFault
test_time None time = Ok tt
test_time (Some last) time = if nat_lt time last.time then Err (Broken last.line (pos (last.time - time))) else Ok tt

-- the test of a line's numbers against the least ones: after accepted lines at most one of the two has risen too much
abbrev pub test_drift : Option Extremes → (now : Extremes) → Result (Unit {0}) DriftFault
test_drift None now = Ok tt
test_drift (Some lately) now = result_and (test_rise lately.lead now.lead) (test_rise lately.lag now.lag)

-- both numbers are those of readings in range
pub record AreSmall (extremes : Extremes) : Type 0 where
  pub lead : unsigned_abs extremes.lead.value < 2 ^ 92
  pub lag : unsigned_abs extremes.lag.value < 2 ^ 92
