-- No text changes the clock.
use Rattle.std.proofs.Common.{◌≤◌}
use Rattle.css_ends_tests.proofs.companion_plain.compare_drawn.Given as goal

abbrev pub invariant-loop : goal.invariant-loop
invariant-loop g l = l.companion.client.floor ≤ l.reading
