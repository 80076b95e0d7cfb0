-- The lines so far are lines of a script.
use Rattle.std.specs.Prelude.{All}
use Rattle.css_schedule.specs.Ranges.{IsScriptLine}
use Rattle.css_runs_tests.proofs.runs.script_lines.Given as goal

abbrev pub invariant-loop-line : goal.invariant-loop-line
invariant-loop-line g l = All IsScriptLine l.lines.items
