use Rattle.std.proofs.Common.{◌≤◌, ◌*◌}
use Rattle.css_base_tests.proofs.span_tests.compare_all.Given as goal

-- the next answer lands later
abbrev pub invariant-loop-i : goal.invariant-loop-i
invariant-loop-i g l = l.estimate.floor ≤ 1000 * l.i
