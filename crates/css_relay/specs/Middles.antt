-- What a relay makes of the wall clock's span: one reading, and how far the wall clock can be from it.
use Rattle.std.specs.Prelude.{ℕ, ◌+◌, ◌-◌, ◌/◌, min, ℤ, pos, negsuc, int_lt, Bool, not, ◌||◌, if◌then◌else◌}
use Rattle.std.specs.Prelude.{Option, Some, None, Result, Ok, Err}
use Rattle.std.specs.Int.{div_ceil}
use Rattle.css_num.specs.Spans.{Interval}
use Rattle.css_model.specs.declared.TheConstants.{LIMIT}
use Rattle.css_relay.specs.declared.fault.RelayFault.{RelayFault}
use Rattle.css_relay.specs.declared.fault.RelayFault.TheVariants as faults
use Rattle.css_relay.specs.declared.middle.Middle.{Middle}

-- a number, cut to the readings that a clock can have
abbrev pub cut : ℤ → ℕ
cut (pos number) = min number (LIMIT - 1)
cut (negsuc number) = 0

-- of two readings, the one between them, rounded down, and half of their distance, rounded up
abbrev pub between : ℕ → ℕ → Middle
between low high = record { value = (low + high) / 2; half = div_ceil (high - low) 2 }

-- whether no number of a span is a reading that a clock can have
abbrev pub is_beyond : Interval → Bool
is_beyond span = int_lt span.hi (pos 0) || not (int_lt span.lo (pos LIMIT))

-- the middle of a span that is cut to readings
abbrev pub middle_of : Interval → Result Middle RelayFault
middle_of span = if is_beyond span then Err (faults.Beyond span) else Ok (between (cut span.lo) (cut span.hi))

-- the middle of what is known of the wall clock
abbrev pub middle_known : Option Interval → Result Middle RelayFault
middle_known None = Err faults.NoAnswer
middle_known (Some span) = middle_of span
