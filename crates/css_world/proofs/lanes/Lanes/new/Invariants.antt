-- There is a fresh lane for each companion so far.
use Rattle.std.proofs.Common.{◌≡◌, ◌≤◌, length}
use Rattle.css_world.proofs.Fresh.{Each}
use Rattle.css_world.specs.Lanes.{IsFresh}
use Rattle.css_world.proofs.lanes.Lanes.new.Given as goal

abbrev pub invariant-loop-companion : goal.invariant-loop-companion
invariant-loop-companion l = record {
  count : length l.list.items ≡ l.companion-index;
  within : l.companion-index ≤ length l.companions;
  each : Each IsFresh l.companions l.list.items;
}
