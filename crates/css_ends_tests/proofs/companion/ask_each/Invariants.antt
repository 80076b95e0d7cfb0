-- The floor is at most the next reading.
use Rattle.std.proofs.Common.{◌≤◌}
use Rattle.css_ends_tests.proofs.companion.ask_each.Given as goal

abbrev pub invariant-loop-reading : goal.invariant-loop-reading
invariant-loop-reading l = l.companion.client.floor ≤ l.reading
