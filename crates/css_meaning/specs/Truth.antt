-- What is promised of accepted lines, with no premise but the ranges of what the header declares.
use Rattle.std.specs.Prelude.{ℕ, pos, ◌≡◌, ◌≤◌, ◌⊎◌, List, ◌∷◌, length, IfSome}
use Rattle.css_num.specs.Spans.{Covers}
use Rattle.css_schedule.specs.declared.header.Header.{Header}
use Rattle.css_schedule.specs.declared.line.Verb.TheVariants.{Land, Wall, Print}
use Rattle.css_companion.specs.Reports.{HasTickOf}
use Rattle.css_client.specs.Landings.{landing_of}
use Rattle.css_client.specs.declared.landing.Landing.TheVariants as landings
use Rattle.css_meaning.specs.Numbering.{numbered}
use Rattle.css_meaning.specs.Happened.{Numbered, datagrams, bytes_of, history_of}
use Rattle.css_meaning.specs.Verdicts.{local_of, IsDeclared, span_at, report_at, assigned_at}
use Rattle.css_meaning.specs.Arrived.{IsToldInOrder, HasAllCome, IsInStep}
use Rattle.css_meaning.specs.Accepted.{AreAccepted}
use Rattle.css_meaning.specs.Worlds.{world_of, moment_number, errors_of}
use Rattle.css_model.specs.World.{IsWorldFor}
use Rattle.css_model.specs.Explains.{IsLawful, Explains}

-- At a `wall` line the span, if there is one, contains the value that the line gives the television's wall clock.
abbrev pub IsTrueWall : Header → List Numbered → Numbered → Type 0
IsTrueWall header older now = (reading : ℕ) → now.line.verb ≡ Wall reading
    → IfSome (span_at now.line.who header older reading) (λ span. Covers span (pos now.line.w))

-- A datagram that lands is accepted, unless its request left the last 64 since the companion's last sleep.
abbrev pub IsPossibleLanding : Header → List Numbered → Numbered → Type 0
IsPossibleLanding header older now = (datagram reading : ℕ) → now.line.verb ≡ Land datagram reading
    → let landing = landing_of (local_of now.line.who header) (history_of now.line.who header older) reading
    (bytes_of (numbered datagram (datagrams header older))) in
    (landing ≡ landings.Accepted) ⊎ (landing ≡ landings.Unasked)

-- At a `print` line the ticks, if there are any, contain the position that the last control timestamp assigns to the
-- value that the line gives the television's wall clock.
abbrev pub IsTrueReport : Header → List Numbered → Numbered → Type 0
IsTrueReport header older now = (reading : ℕ) → now.line.verb ≡ Print reading
    → HasTickOf (report_at now.line.who header older reading) (assigned_at now.line.who header older now.line.w)

-- a companion of the schedule has this number
pub record IsCompanionOf (header : Header) (who : ℕ) : Type 0 where
  pub first : 1 ≤ who
  pub within : who ≤ length header.companions

-- The texts that came to each companion tell the published states of its session in their order.
abbrev pub AreToldInOrder : Header → List Numbered → Type 0
AreToldInOrder header lines = (who : ℕ) → IsCompanionOf header who → IsToldInOrder who header lines

-- Where all has come to a companion, it assigns the position that the television published.
abbrev pub AreInStepAt : Header → List Numbered → Numbered → Type 0
AreInStepAt header older now = (who : ℕ) → IsCompanionOf header who
    → HasAllCome who header older → IsInStep who header older now.line.w

-- Of accepted lines all of these hold.
pub record IsTrueLine (header : Header) (older : List Numbered) (now : Numbered) : Type 0 where
  pub wall : IsTrueWall header older now
  pub report : IsTrueReport header older now
  pub landing : IsPossibleLanding header older now
  pub told : AreToldInOrder header (now ∷ older)
  pub in_step : AreInStepAt header older now

-- of whatever header and accepted lines
abbrev pub AcceptedLinesAreTrue : Type 0
AcceptedLinesAreTrue = (header : Header) (older : List Numbered) (now : Numbered)
    → IsDeclared header → AreAccepted header (now ∷ older) → IsTrueLine header older now

-- ---- the world of lines
-- The lines of a schedule are the moments of a world. It keeps the errors that the header declares, and it explains,
-- within the declared precisions, what companion `who` of the lines did, whose history is lawful.
pub record AreWorldOf (header : Header) (lines : List Numbered) (who : ℕ) : Type 0 where
  pub keeps : IsWorldFor (errors_of header) (world_of lines) who (local_of who header)
  pub lawful : IsLawful (history_of who header lines)
  pub explains : Explains (world_of lines) who header.tv_error (local_of who header) (history_of who header lines)
      (moment_number who header lines)

-- so it does of each companion
abbrev pub AreWorld : Header → List Numbered → Type 0
AreWorld header lines = (who : ℕ) → IsCompanionOf header who → AreWorldOf header lines who

-- of whatever header and accepted lines
abbrev pub AcceptedLinesAreWorld : Type 0
AcceptedLinesAreWorld = (header : Header) (lines : List Numbered)
    → IsDeclared header → AreAccepted header lines → AreWorld header lines
