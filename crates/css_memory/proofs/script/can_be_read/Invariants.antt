-- All are readings where those that are left are readings after the last one.
use Rattle.std.proofs.Common.{◌≡◌, drop}
use Rattle.css_memory.specs.Scripts.{are_readings}
use Rattle.css_memory.proofs.script.can_be_read.Given as goal

abbrev pub invariant-loop-clocked : goal.invariant-loop-clocked
invariant-loop-clocked l = are_readings 0 l.readings ≡ are_readings l.last (drop l.clocked-index l.readings)
