-- A write that failed and is made again gave nothing.
use Rattle.std.specs.Io.KnownBytes.{Keeps}
use Rattle.css_devices.proofs.streams.write_through.Given as goal

abbrev pub invariant-loop : goal.invariant-loop
invariant-loop g l = Keeps (g.W.Write.contents l.initial.inner) (g.W.Write.contents l.inner)
