-- What was counted is told at all lines.
use Rattle.css_survey.proofs.Surveying.{all_counted}
use Rattle.css_survey.proofs.surveyor.survey.Goals as goal

pub returns : goal.returns
returns c =
    all_counted c.take_all.new.survey c.args.seed c.args.companions c.args.lines
    (rw (c.in_ok-survey.ensures.generator, c.new-generator.ensures) at c.in_ok-take_all.ensures)
