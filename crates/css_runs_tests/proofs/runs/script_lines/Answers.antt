-- The line that was read is a line of a script.
use Rattle.std.proofs.Common.{subst, sym}
use Rattle.std.specs.Prelude.{All}
use Rattle.std.proofs.lemmas.List.Elements.{All-push}
use Rattle.css_schedule.specs.Ranges.{IsScriptLine}
use Rattle.css_runs_tests.proofs.runs.script_lines.Goals as goal

pub loop-line-preserved : goal.loop-line-preserved
loop-line-preserved g c =
    subst (All IsScriptLine) (sym c.in_ok-push.ensures.items)
    (All-push IsScriptLine c.loop-line.lines.items _ c.loop-line.invariant c.script_line.ensures)
