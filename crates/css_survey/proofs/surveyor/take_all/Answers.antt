-- In the end all lines were taken.
use Rattle.std.proofs.Common.{arith, subst}
use Rattle.css_survey.specs.Surveys.{HasTaken}
use Rattle.css_survey.proofs.surveyor.take_all.Goals as goal

pub returns : goal.returns
returns c =
    subst (HasTaken c.loop-given.survey c.args.generator.now.seed c.args.generator.now.companions) (omega arith)
    c.loop-given.invariant.taken
