-- What a drift keeps of what it was told: enough for each verdict to come.
use Rattle.std.specs.Prelude.{ℕ, ◌<◌, ◌≤◌, ◌≡◌, ℤ, List, Option}
use Rattle.std.specs.Option.{option_map, ForSome}
use Rattle.css_model.specs.declared.TheConstants.{LIMIT}
use Rattle.css_model.specs.Numbers.{max_error}
use Rattle.css_model.specs.WallClock.{least_by}
use Rattle.css_moments.specs.Drifts.{Shown, Told, last_shown, shown_lately, IsAccepted}
use Rattle.css_moments.specs.Numbers.{lead, lag}
use Rattle.css_moments.specs.Steps.{AreSmall}
use Rattle.css_moments.specs.declared.kept.Last.{Last}
use Rattle.css_moments.specs.declared.kept.Least.{Least}
use Rattle.css_moments.specs.declared.kept.Extremes.{Extremes}

-- the oscillator's error, the last line, and the least lead and the least lag since the last sleep, each with its first
-- line
pub record Drift : Type 0 where
  pub error : ℕ
  pub last : Option Last
  pub lately : Option Extremes

-- a line with its true time
abbrev pub last_of : Shown → Last
last_of shown = record { line = shown.line; time = shown.time }

-- of what was shown, the least number with its first line
abbrev pub first_least : (Shown → ℤ) → List Shown → Option Least
first_least number shown =
    option_map (λ least. record { line = least.line; value = number least }) (least_by number shown)

-- The drift stands for what it was told: all of it was accepted, and the drift keeps the last line and the two least
-- numbers since the last sleep.
pub record StandsFor (drift : Drift) (told : List Told) : Type 0 where
  pub accepted : IsAccepted drift.error told
  pub last : drift.last ≡ option_map last_of (last_shown told)
  pub lead : option_map (λ extremes. extremes.lead) drift.lately
      ≡ first_least (λ shown. lead drift.error shown.time shown.value) (shown_lately told)
  pub lag : option_map (λ extremes. extremes.lag) drift.lately
      ≡ first_least (λ shown. lag drift.error shown.time shown.value) (shown_lately told)

-- what is always true of a drift
pub record IsDrift (drift : Drift) : Type 0 where
  pub error : drift.error ≤ max_error
  pub last : ForSome drift.last (λ last. last.time < LIMIT)
  pub lately : ForSome drift.lately AreSmall
