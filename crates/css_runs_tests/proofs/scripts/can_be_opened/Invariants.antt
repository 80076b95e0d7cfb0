-- All are sessions where those that are left are.
use Rattle.std.proofs.Common.{◌≡◌, drop}
use Rattle.css_memory.specs.Scripts.{are_sessions}
use Rattle.css_runs_tests.proofs.scripts.can_be_opened.Given as goal

abbrev pub invariant-loop-opening : goal.invariant-loop-opening
invariant-loop-opening l = are_sessions l.openings ≡ are_sessions (drop l.opening-index l.openings)
