-- A world of three clocks that drift: the television's wall clock, and those of companions 1 and 2.
use Rattle.std.specs.Prelude.{ℕ, ℤ, ◌+◌, ◌*◌, min, Bool, true, false, ◌==◌, ◌||◌, if◌then◌else◌, Some, None}
use Rattle.css_model.specs.declared.Message.{Message}
use Rattle.css_model.specs.WallClock.{Local}
use Rattle.css_model.specs.Wire.{stamp_of}
use Rattle.css_model.specs.World.{World, Errors}

-- what the clock of companion 1 shows after so many half milliseconds, or that of companion 2
abbrev pub shown : Bool → ℕ → ℕ
shown true number = 1000000 + 499750 * number
shown false number = 2000000 + 500050 * number

-- The wall clock is 250 ppm fast, the clock of companion 1 is 500 ppm slow, and that of companion 2 is 100 ppm fast.
-- Two moments are half a millisecond apart, up to moment 24.
abbrev pub drifting : World
drifting i =
    let number = min i 24 in
    record {
      time = 500000 * number;
      wall = 5000000000 + 500125 * number;
      companion = λ who.
          if who == 1 || who == 2 then Some (record { value = shown (who == 1) number; sleeps = 0 }) else None;
    }

-- the errors that the clocks keep
abbrev pub errors : Errors
errors = record { tv = 64000; companion = λ who. 128000 }

-- both companions take their oscillators for 500 ppm, and their readings for good to 1000 ns
abbrev pub own : Local
own = record { error = 128000; precision = 1000 }

-- a response that declares the television's 250 ppm
abbrev pub response : ℤ → ℕ → ℕ → ℕ → Message
response precision originate receive transmit = record {
  message_type = 1;
  precision = precision;
  error = 64000;
  originate = stamp_of originate;
  receive = stamp_of receive;
  transmit = stamp_of transmit;
}
