use Rattle.std.proofs.Common.{◌∷◌}
use Rattle.css_survey.proofs.Surveying.{reads_on, tells_report, never_gone}
use Rattle.css_survey.proofs.surveyor.last_report.Goals as goal

pub report-requires-clause-floor : goal.report-requires-clause-floor
report-requires-clause-floor c =
    reads_on c.args.world.now c.in-Some.companion.now c.requires.0 c.requires.1 c.args.who c.args.reading
    (c.in-Some.ensures.some (c.requires.0 ∷ c.requires.1) c.requires.2) c.requires.3 c.requires.4

pub unreachable-requires : goal.unreachable-requires
unreachable-requires c =
    absurd (never_gone c.args.world.now c.requires.0 c.requires.1 c.args.who c.args.reading
    c.requires.2 c.requires.3 c.requires.4
    (c.in-None.ensures.none (c.requires.0 ∷ c.requires.1) c.requires.2))

pub returns : goal.returns
returns c = λ now older stands asked is.
    tells_report c.args.world.now c.in-Some.companion.now now older c.args.who c.args.reading c.report.result
    (c.in-Some.ensures.some (now ∷ older) stands) stands asked is c.report.ensures.report
