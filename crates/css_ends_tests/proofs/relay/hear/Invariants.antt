-- The relay's floor is at most the reading at which its last answer landed.
use Rattle.std.proofs.Common.{◌≤◌}
use Rattle.css_ends_tests.proofs.relay.hear.Given as goal

abbrev pub invariant-loop-asked : goal.invariant-loop-asked
invariant-loop-asked g l = l.relay.companion.client.floor ≤ l.floor
