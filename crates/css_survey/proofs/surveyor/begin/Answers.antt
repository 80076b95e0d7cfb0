-- The generator gives the header, and the survey begins with it.
use Rattle.std.proofs.Common.{◌∙◌}
use Rattle.css_survey.proofs.Surveying.{can_open, taken_first}
use Rattle.css_survey.proofs.surveyor.begin.Goals as goal

pub new-requires : goal.new-requires
new-requires c =
    can_open c.args.generator.now.companions c.in_ok-header.header c.requires.some c.in_ok-header.ensures.header

pub returns-clause-taken : goal.returns-clause-taken
returns-clause-taken c =
    taken_first _ c.args.generator.now.seed c.args.generator.now.companions
    (c.in_ok-new.ensures.header ∙ c.in_ok-header.ensures.header) c.in_ok-new.ensures.stands c.new-3.ensures
