use Rattle.std.proofs.Common.{arith, ap, ◌∙◌}
use Rattle.css_gen.specs.Generated.{next_text}
use Rattle.css_gen.proofs.CrowdGoing.{next-is, can_give, text-next}
use Rattle.css_gen.proofs.generator.Generator.next_line.Goals as goal

pub text_in-requires-clause-ready : goal.text_in-requires-clause-ready
text_in-requires-clause-ready c =
    let few = c.self.invariant.few in
    can_give c.self.inside.seed c.self.inside.given c.self.inside.crowd c.self.invariant.companions (omega arith)
    c.self.invariant.follows

pub invariant_of-self-2 : goal.invariant_of-self-2
invariant_of-self-2 c =
    next-is c.self.inside.seed c.self.inside.lines c.self.inside.given c.self.inside.crowd _ c.self.invariant
    c.in_ok-text.ensures.crowd

pub returns-clause-text : goal.returns-clause-text
returns-clause-text c =
    text-next c.self.inside.seed c.self.inside.lines c.self.inside.given c.self.inside.crowd c.in_ok-text.text
    (omega arith) c.self.invariant.follows c.in_ok-text.ensures.text
    ∙ ap next_text c.self.view_is
