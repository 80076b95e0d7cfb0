-- The reading is one, and the companion's floor is at most that.
use Rattle.std.proofs.Common.{◌≤◌, ◌<◌}
use Rattle.css_ends_tests.proofs.companion.play.Given as goal

abbrev pub invariant-loop-happened : goal.invariant-loop-happened
invariant-loop-happened g l = record {
  range : l.floor < 4294967296000000000;
  floor : l.companion.client.floor ≤ l.floor;
}
