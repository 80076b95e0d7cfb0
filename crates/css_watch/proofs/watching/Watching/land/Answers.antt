use Rattle.std.proofs.Common.{◌∙◌}
use Rattle.css_companion.specs.declared.binding.Binding.TheVariants.{Both}
use Rattle.css_watch.proofs.Landing as landing
use Rattle.css_watch.proofs.Telling.{says_as}
use Rattle.css_watch.proofs.watching.Watching.land.Goals as goal

pub returns-in-Ok-clause-steps : goal.returns-in-Ok-clause-steps
returns-in-Ok-clause-steps g c history k answers of =
    landing.step_of c.args.self.now.plan.now c.args.reading c.args.bytes.now history c.args.companion.now answers
    c.args.self.now.progress.now _ c.args.self.now.agree.now _ _ _ _ _ _ _ c.judge-judged.result
    c.landing_text-text.result c.in-Ok.between c.accept.new.agree k of (c.judge-judged.ensures Both)
    c.landing_text-text.ensures c.in-Ok.ensures
    (c.say.ensures.progress ∙ c.after_landing.ensures) c.say.ensures.agree
    (λ bytes said. says_as c.parted.ensures (c.say.ensures.said bytes said))

pub returns-in-Err-clause-steps : goal.returns-in-Err-clause-steps
returns-in-Err-clause-steps g c history k answers of =
    landing.failed_of c.args.self.now.plan.now c.args.reading c.args.bytes.now history answers
    c.args.self.now.progress.now _ _ _ _ _ _ _ _ c.fail.ensures.over c.fail.ensures.parting c.fail.ensures.holds
    c.fail.ensures.faults
