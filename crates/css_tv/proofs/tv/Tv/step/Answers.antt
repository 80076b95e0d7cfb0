use Rattle.std.proofs.Common.{subst}
use Rattle.css_tv.specs.Stages.{Television}
use Rattle.css_tv.specs.Standing.{Stands, Tells}
use Rattle.css_tv.proofs.More.{keeps_step, stands_step, tells_step}
use Rattle.css_tv.proofs.tv.Tv.step.Goals as goal

pub invariant_of-self : goal.invariant_of-self
invariant_of-self c =
    keeps_step c.step.result c.args.event c.self.inside.stage c.step.new.self c.args.out.now.items c.step.new.out.items
    c.step.ensures.steps c.self.invariant

pub returns-clause-stands : goal.returns-clause-stands
returns-clause-stands c =
    subst (λ (tv : Television). Stands c.step.result tv.stage c.step.new.self c.args.event) c.self.view_is
    (stands_step c.step.result c.args.event c.self.inside.stage c.step.new.self c.args.out.now.items
    c.step.new.out.items c.step.ensures.steps c.step.ensures.stands)

pub returns-clause-told : goal.returns-clause-told
returns-clause-told c =
    subst (λ (tv : Television). Tells c.step.result tv.stage c.args.out.now.items c.step.new.out.items c.args.event)
    c.self.view_is
    (tells_step c.step.result c.args.event c.self.inside.stage c.step.new.self c.args.out.now.items c.step.new.out.items
    c.step.ensures.steps c.step.ensures.stands)
