-- What is told of the system's two clocks, and what is kept of them.
use Rattle.std.specs.Prelude.{ℕ, ◌≡◌, ◌+◌, nat_lt, Bool, false, if◌then◌else◌, Option, Some, None}
use Rattle.css_outside.specs.Outsides.{Counts}
use Rattle.css_outside.specs.declared.calls.Clocked.{Clocked}
use Rattle.css_devices.specs.declared.shown.Clocks.{Clocks}

-- what is counted, and the clocks at the last reading that was told
pub record Tallied : Type 0 where
  pub counts : Counts
  pub before : Option Clocks

-- The machine slept where the system's clock rose by over two seconds more than the monotone one.
abbrev pub ran_ahead : Clocks → Clocks → Option ℕ → Option ℕ → Bool
ran_ahead before now None now_shown = false
ran_ahead before now (Some before_shown) None = false
ran_ahead before now (Some before_shown) (Some now_shown) =
    nat_lt (now.monotone + before_shown + 2000000000) (now_shown + before.monotone)

-- whether it slept since the last reading that was told
abbrev pub has_slept : Option Clocks → Clocks → Bool
has_slept None now = false
has_slept (Some before) now = ran_ahead before now before.system now.system

-- the reading is the monotone clock's, but never below the last one, and above it after a sleep
abbrev pub reading_of : ℕ → Bool → ℕ → ℕ
reading_of last slept monotone =
    if nat_lt last monotone then monotone else if slept then last + 1 else last

-- what is told where the clocks show this
abbrev pub clocked_of : Tallied → Clocks → Clocked
clocked_of tally clocks = record {
  reading = reading_of tally.counts.last (has_slept tally.before clocks) clocks.monotone;
  slept = has_slept tally.before clocks;
}

-- This was told of what both clocks showed, and that is kept.
pub record IsToldOf (old new : Tallied) (clocked : Clocked) : Type 0 where
  pub clocks : Clocks
  pub told : clocked ≡ clocked_of old clocks
  pub kept : new.before ≡ Some clocks
