use Rattle.std.proofs.Common.{◌≡◌, drop}
use Rattle.css_cii.specs.States.{merged_from, empty}
use Rattle.css_cii.proofs.merging.merge.Given as goal

abbrev pub invariant-loop-change : goal.invariant-loop-change
invariant-loop-change l = merged_from l.state (drop l.change-index l.changes) ≡ merged_from empty l.changes
