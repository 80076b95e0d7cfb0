-- The report of the companion of the line is printed, and the position that it assigns.
use Rattle.std.proofs.Common.{◌++◌, ap, ◌∙◌}
use Rattle.css_world.specs.Standing.{Kept, kept}
use Rattle.css_world.proofs.Names.{line_of, report_at}
use Rattle.css_world.proofs.Printing.{report_told, position_told}
use Rattle.css_world.proofs.Owning.{may_ask}
use Rattle.css_world.proofs.both.Ends.print.Goals as goal

pub report-report-requires-clause-floor : goal.report-report-requires-clause-floor
report-report-requires-clause-floor c =
    let ready = c.requires.ready in
    may_ask c.args.who ready.1 (ready.2.are.lanes c.args.who c.in-Some.lane.now c.in-Some.ensures.some) ready.3

pub returns-clause-printed : goal.returns-clause-printed
returns-clause-printed c = λ header lines ready.
    let old : Kept = kept header c.args.self.now in
    let lane = c.in-Some.lane.now in
    let who = c.args.who in
    let before = c.args.out.now.items in
    let number = c.args.number in
    c.in_ok-print_report.ensures.ok
    ∙ ap (λ told. before ++ line_of number told c.assigned-position.result)
    (report_told old lines who lane c.args.reading c.report-report.result ready c.in-Some.ensures.some
    c.report-report.ensures.report)
    ∙ ap (λ at. before ++ line_of number (report_at who header lines c.args.reading) at)
    (position_told old lines who lane c.args.w c.assigned-position.result ready c.in-Some.ensures.some
    c.assigned-position.ensures.position)
