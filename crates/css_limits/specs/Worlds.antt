-- Two worlds for one exchange and a later reading. In the one the wall clock has gone as far as it can have, in the
-- other as little.
use Rattle.std.specs.Prelude.{ℕ, zero, ◌+◌, ◌-◌, ◌*◌, ◌/◌, min, max, List, [], ◌∷◌, suc, Some}
use Rattle.std.specs.Int.{div_ceil}
use Rattle.css_model.specs.declared.TheConstants.{F}
use Rattle.css_model.specs.WallClock.{Answer, Local}
use Rattle.css_model.specs.World.{Moment, World, Errors}

-- what the clocks show at a moment: true time, the television's wall clock, and the clock of each companion
pub record Shown : Type 0 where
  pub time : ℕ
  pub wall : ℕ
  pub own : ℕ

abbrev pub moment : Shown → Moment
moment shown = record {
  time = shown.time;
  wall = shown.wall;
  companion = λ who. Some (record { value = shown.own; sleeps = 0 });
}

-- the item of a list with this number; behind the last one it is the last
abbrev pub item : {A : Type 0} → A → List A → ℕ → A
item first [] number = first
item first (next ∷ later) zero = first
item first (next ∷ later) (suc number) = item next later number

-- the world of a list of moments
abbrev pub world_of : Shown → List Shown → World
world_of first later number = moment (item first later number)

-- the greatest errors that an answer and its companion declare
abbrev pub declared : Local → Answer → Errors
declared own answer = record { tv = answer.error; companion = λ who. own.error }

-- ---- true time
-- the longest true time in which a clock goes on by less than so much
unfoldable pub longest : (error beyond : ℕ) → ℕ
longest error beyond = F * beyond / (F - error)

-- the shortest true time in which a clock goes on by so much
unfoldable pub shortest : (error passed : ℕ) → ℕ
shortest error passed = div_ceil (F * (passed - 1)) (F + error)

-- How far a clock goes in the shortest true time in which it goes on by so much, when it is fast: that far, or one
-- nanosecond more, since true time is whole too.
unfoldable pub gone : (error passed : ℕ) → ℕ
gone error passed = max passed (div_ceil ((F + error) * shortest error passed) F)

-- the longest true time from the request to a reading
abbrev pub since_asked : Local → Answer → ℕ → ℕ
since_asked own answer reading = longest own.error (reading + 2 * own.precision + 1 - answer.t1)

-- ---- the wall clock as late as it can be
-- The request takes no time. The wall clock runs at its fastest, and the companion's at its slowest; that one is read
-- early for the request, and late from then on.
abbrev pub latest_first : Local → Answer → Shown
latest_first own answer =
    record { time = 0; wall = answer.t2 + answer.precision; own = answer.t1 - own.precision }

-- the television reads its clock for the transmit value as soon as that clock allows it
abbrev pub latest_transmit : Local → Answer → Shown
latest_transmit own answer =
    let passed = answer.t3 - answer.precision - (answer.t2 + answer.precision) in
    let time = shortest answer.error passed in
    record {
      time = time;
      wall = answer.t2 + answer.precision + gone answer.error passed;
      own = answer.t1 - own.precision + (F - own.error) * time / F;
    }

-- a reading is as late as the companion's clock allows it
unfoldable pub latest_at : Local → Answer → ℕ → Shown
latest_at own answer reading =
    let time = since_asked own answer reading in
    record {
      time = time;
      wall = answer.t2 + answer.precision + div_ceil ((F + answer.error) * time) F;
      own = reading + own.precision;
    }

-- and at the last one the wall clock shows a nanosecond more
abbrev pub latest_last : Local → Answer → ℕ → Shown
latest_last own answer reading =
    let time = since_asked own answer reading in
    record {
      time = time;
      wall = answer.t2 + answer.precision + (F + answer.error) * time / F + 1;
      own = reading + own.precision;
    }

-- The moments of the request's sending, its receipt, the transmit value, the landing, a reading between and the last
-- reading.
abbrev pub latest : Local → Answer → (between reading : ℕ) → World
latest own answer between reading = world_of (latest_first own answer) (
    latest_first own answer ∷ latest_transmit own answer ∷ latest_at own answer answer.t4
    ∷ latest_at own answer between ∷ latest_last own answer reading ∷ [])

-- ---- the wall clock as early as it can be
-- what the wall clock shows when the request comes
abbrev pub earliest_received : Answer → ℕ
earliest_received answer = min (answer.t2 + answer.precision) (answer.t3 - answer.precision)

-- the shortest true time that the television takes to answer
abbrev pub turnaround : Answer → ℕ
turnaround answer = shortest answer.error (answer.t3 - answer.precision - earliest_received answer)

-- The answer takes no time. Up to its landing the companion's clock runs at its slowest, and the wall clock at its
-- fastest while the television answers.
abbrev pub earliest_landed : Local → Answer → Shown
earliest_landed own answer = record {
  time = since_asked own answer answer.t4;
  wall = earliest_received answer
      + gone answer.error (answer.t3 - answer.precision - earliest_received answer);
  own = answer.t4 + own.precision;
}

-- the request comes so much earlier that the television can answer
abbrev pub earliest_receipt : Local → Answer → Shown
earliest_receipt own answer = record {
  time = since_asked own answer answer.t4 - turnaround answer;
  wall = earliest_received answer;
  own = answer.t4 + own.precision - (F - own.error) * turnaround answer / F;
}

-- the request took the rest of the round trip
abbrev pub earliest_first : Local → Answer → Shown
earliest_first own answer = record {
  time = 0;
  wall = earliest_received answer - (since_asked own answer answer.t4 - turnaround answer);
  own = answer.t1 - own.precision;
}

-- From the landing on the companion's clock runs at its fastest, and the wall clock at its slowest. What the former
-- shows at the reading between, and how long that is after the landing.
unfoldable pub between_own : Local → Answer → (between reading : ℕ) → ℕ
between_own own answer between reading =
    min (max between (answer.t4 + own.precision)) (reading - own.precision)

unfoldable pub until_between : Local → Answer → (between reading : ℕ) → ℕ
until_between own answer between reading =
    shortest own.error (between_own own answer between reading - (answer.t4 + own.precision))

-- and how long the last reading is after it
unfoldable pub until_last : Local → Answer → (between reading : ℕ) → ℕ
until_last own answer between reading = max
    (shortest own.error (reading - own.precision - (answer.t4 + own.precision)))
    (until_between own answer between reading
    + shortest own.error (reading - own.precision - between_own own answer between reading))

abbrev pub earliest_between : Local → Answer → (between reading : ℕ) → Shown
earliest_between own answer between reading =
    let passed = until_between own answer between reading in
    record {
      time = (earliest_landed own answer).time + passed;
      wall = (earliest_landed own answer).wall + (F - answer.error) * passed / F;
      own = between_own own answer between reading;
    }

-- at the last reading the wall clock shows a nanosecond less
abbrev pub earliest_last : Local → Answer → (between reading : ℕ) → Shown
earliest_last own answer between reading =
    let passed = until_last own answer between reading in
    record {
      time = (earliest_landed own answer).time + passed;
      wall = (earliest_landed own answer).wall + div_ceil ((F - answer.error) * passed) F - 1;
      own = reading - own.precision;
    }

-- the same moments as those of `latest`
abbrev pub earliest : Local → Answer → (between reading : ℕ) → World
earliest own answer between reading = world_of (earliest_first own answer) (
    earliest_receipt own answer ∷ earliest_landed own answer ∷ earliest_landed own answer
    ∷ earliest_between own answer between reading ∷ earliest_last own answer between reading ∷ [])
