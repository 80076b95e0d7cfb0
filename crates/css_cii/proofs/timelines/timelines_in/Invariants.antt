use Rattle.css_cii.proofs.Runs.{Found}
use Rattle.css_cii.proofs.timelines.timelines_in.Given as goal

abbrev pub invariant-loop-value : goal.invariant-loop-value
invariant-loop-value l = Found l.values.items l.found.items l.value-index
