use Rattle.std.proofs.Common.{◌+◌, ◌<◌, arith, ap, sym, subst, ◌∙◌}
use Rattle.css_gen.specs.Generated.{Generator, line_for}
use Rattle.css_gen.proofs.CrowdGoing.{next-is, can_give, line_with-is}
use Rattle.css_gen.proofs.generator.Generator.line.Goals as goal

pub line_in-requires-clause-ready : goal.line_in-requires-clause-ready
line_in-requires-clause-ready c =
    let few = c.self.invariant.few in
    let more : c.self.inside.given < c.self.inside.lines =
    subst (λ (g : Generator). g.given < g.lines) (sym c.self.view_is) c.requires.more in
    can_give c.self.inside.seed c.self.inside.given c.self.inside.crowd c.self.invariant.companions (omega arith)
    c.self.invariant.follows

pub invariant_of-self-2 : goal.invariant_of-self-2
invariant_of-self-2 c =
    next-is c.self.inside.seed c.self.inside.lines c.self.inside.given c.self.inside.crowd _ c.self.invariant
    c.in_ok-line.ensures.crowd

pub returns-clause-line : goal.returns-clause-line
returns-clause-line c =
    c.in_ok-line.ensures.line
    ∙ line_with-is c.self.inside.seed c.self.inside.given c.self.inside.crowd c.self.invariant.follows
    ∙ ap (λ (g : Generator). line_for g.seed g.companions (g.given + 1)) c.self.view_is
