-- What the companion of the line tells of the wall clock is printed.
use Rattle.std.proofs.Common.{◌++◌, ap, ◌∙◌}
use Rattle.css_world.specs.Standing.{kept}
use Rattle.css_world.proofs.Names.{wall_text}
use Rattle.css_world.proofs.Printing.{span_told}
use Rattle.css_world.proofs.Owning.{may_ask}
use Rattle.css_world.proofs.both.Ends.wall.Goals as goal

pub wall-requires-clause-floor : goal.wall-requires-clause-floor
wall-requires-clause-floor c =
    let ready = c.requires.ready in
    may_ask c.args.who ready.1 (ready.2.are.lanes c.args.who c.in-Some.lane.now c.in-Some.ensures.some) ready.3

pub returns-clause-printed : goal.returns-clause-printed
returns-clause-printed c = λ header lines ready.
    c.in_ok-print_wall.ensures.ok
    ∙ ap (λ span. c.args.out.now.items ++ wall_text c.args.number span c.args.w)
    (span_told (kept header c.args.self.now) lines c.args.who c.in-Some.lane.now c.args.reading c.wall.result ready
    c.in-Some.ensures.some (c.wall.ensures.span _))
