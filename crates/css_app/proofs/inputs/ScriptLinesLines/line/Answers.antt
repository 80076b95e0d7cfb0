use Rattle.css_app.proofs.Commands.{stands-more}
use Rattle.css_app.proofs.inputs.ScriptLinesLines.line.Goals as goal

pub returns-in-Ok-clause-stands : goal.returns-in-Ok-clause-stands
returns-in-Ok-clause-stands c =
    stands-more _ c.keep.result c.args.self.now (record c.args.self.now { lines = c.keep.new.lines }) c.args.text.now
    c.in-Ok.line c.in-Ok.ensures.value c.in-Ok.ensures.range c.keep.ensures.kept
