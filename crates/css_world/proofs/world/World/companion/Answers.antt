-- The companion of a lane of the world.
use Rattle.css_world.specs.Asked.{MayBeAsked}
use Rattle.std.proofs.Common.{List, subst}
use Rattle.css_world.specs.Standing.{World, StandsFor}
use Rattle.css_world.proofs.Names.{IsCompanionOf, Numbered}
use Rattle.css_world.proofs.Printing.{may_be_asked, none_asked}
use Rattle.css_world.proofs.world.World.companion.Goals as goal

pub returns-in-Some-clause-some : goal.returns-in-Some-clause-some
returns-in-Some-clause-some c =
    let old : World = record {
      header = c.self.inside.header;
      clocks = c.self.inside.clocks;
      ends = c.self.inside.ends;
    } in
    subst (λ (w : World). (lines : List Numbered) → StandsFor w lines
    → MayBeAsked w lines c.args.number c.in-Some.lane.now.companion) c.self.view_is
    (λ lines stands. may_be_asked old lines c.args.number c.in-Some.lane.now stands c.in-Some.ensures.some)

pub returns-in-None-clause-none : goal.returns-in-None-clause-none
returns-in-None-clause-none c =
    let old : World = record {
      header = c.self.inside.header;
      clocks = c.self.inside.clocks;
      ends = c.self.inside.ends;
    } in
    subst (λ (w : World). (lines : List Numbered) → StandsFor w lines → IsCompanionOf w.header c.args.number → ⊥)
    c.self.view_is (λ lines stands. none_asked old lines c.args.number stands c.in-None.ensures.none)
