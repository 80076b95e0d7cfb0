-- There is a new watch for each companion so far.
use Rattle.std.proofs.Common.{◌≡◌, ◌≤◌, length}
use Rattle.css_world.proofs.Fresh.{Each}
use Rattle.css_world.specs.Standing.{IsNew}
use Rattle.css_world.proofs.clocks.watches.Given as goal

abbrev pub invariant-loop-companion : goal.invariant-loop-companion
invariant-loop-companion l = record {
  count : length l.own.items ≡ l.companion-index;
  within : l.companion-index ≤ length l.companions;
  each : Each IsNew l.companions l.own.items;
}
