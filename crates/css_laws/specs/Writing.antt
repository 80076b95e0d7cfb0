-- What a run of `migrate` writes, and a replay of that.
use Rattle.std.specs.Prelude.{ℕ, ◌≡◌, List, Option, Some}
use Rattle.std.specs.Io.KnownBytes.{Appends}
use Rattle.css_lines.specs.Meaning.{outcome}
use Rattle.css_app.specs.Commands.{ByMigrate}
use Rattle.css_status.specs.Devices.{SourceUse, SinkUse}
use Rattle.css_replay.specs.Replayed.{replayed}
use Rattle.css_status.specs.declared.status.Status.TheVariants.{Done}
use Rattle.css_laws.specs.Raised.{IsRaised}

-- The sink gained a schedule of which a replay says the same as of these bytes, with the number of each line raised by
-- one.
pub record GainsAlike (bytes : List ℕ) (holds_old holds_new : Option (List ℕ)) : Type 0 where
  pub written : List ℕ
  pub grew : Appends holds_old holds_new written
  pub alike : IsRaised (outcome replayed bytes) (outcome replayed written)

-- So it is in every run that does what `migrate` promises of its devices, read its schedule to the end and told the
-- bytes of that.
abbrev pub WrittenIsReplayedAlike : Type 0
WrittenIsReplayedAlike = (source : SourceUse) (sink : SinkUse) (bytes : List ℕ)
    → ByMigrate source sink Done → source.left_old ≡ Some bytes
    → GainsAlike bytes sink.holds_old sink.holds_new
