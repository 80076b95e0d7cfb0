-- How far a clock is ahead of true time at a line, and how far behind: the two numbers by which its drift is tested.
use Rattle.std.specs.Prelude.{ℕ, ◌*◌, ℤ, pos, ◌-ℤ◌, ◌*ℤ◌}
use Rattle.css_model.specs.declared.TheConstants.{F}

-- How far a clock is ahead of true time, less what its oscillator may have gained by then, in 1/F nanoseconds. From one
-- line to a later one it rises by at most F unless the clock gains too much.
abbrev pub lead : (error time value : ℕ) → ℤ
lead error time value = (pos value -ℤ pos time) *ℤ pos F -ℤ pos (error * time)

-- How far a clock is behind true time, less what its oscillator may have lost by then, in 1/F nanoseconds. From one
-- line to a later one it rises by at most F unless the clock loses too much.
abbrev pub lag : (error time value : ℕ) → ℤ
lag error time value = (pos time -ℤ pos value) *ℤ pos F -ℤ pos (error * time)
