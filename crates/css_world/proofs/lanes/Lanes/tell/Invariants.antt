-- What was told so far is in flight.
use Rattle.std.proofs.Common.{◌≤◌, length}
use Rattle.css_schedule.specs.Headers.{max_companions}
use Rattle.css_world.specs.Lanes.{AllTakeUp, KeepsAllButTexts}
use Rattle.css_world.proofs.lanes.Lanes.tell.Given as goal

abbrev pub invariant-loop-out : goal.invariant-loop-out
invariant-loop-out l = record {
  told : AllTakeUp l.yielded l.initial.self.list.items l.self.list.items;
  rest : KeepsAllButTexts l.initial.self.list.items l.self.list.items;
  few : length l.self.list.items ≤ max_companions;
}
