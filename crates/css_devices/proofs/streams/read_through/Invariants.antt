-- A read that failed and is made again took nothing.
use Rattle.std.proofs.Common.{◌≡◌, length}
use Rattle.std.specs.Io.KnownBytes.{Keeps}
use Rattle.css_devices.proofs.streams.read_through.Given as goal

abbrev pub invariant-loop : goal.invariant-loop
invariant-loop g l =
    (length l.into ≡ length l.initial.into) × Keeps (g.R.Read.remaining l.initial.inner) (g.R.Read.remaining l.inner)
