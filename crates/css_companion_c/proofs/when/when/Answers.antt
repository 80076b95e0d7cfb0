use Rattle.std.proofs.Common.{ℤ, subst}
use Rattle.std.proofs.Math.Facts.{to_z-of_z}
use Rattle.css_companion_c.specs.When.{IsShownWithin, IsNeverShown}
use Rattle.css_companion_c.proofs.when.when.Goals as goal

pub returns-clause-truth : goal.returns-clause-truth
returns-clause-truth c = λ done.
    subst (λ (t : ℤ). IsShownWithin t c.found.new.out.from c.found.new.out.to c.args.follower.now.companion)
    (to_z-of_z c.ranges.tick) (c.found.ensures.truth done)

pub returns-clause-never : goal.returns-clause-never
returns-clause-never c = λ never.
    subst (λ (t : ℤ). IsNeverShown t c.args.follower.now.companion) (to_z-of_z c.ranges.tick)
    (c.found.ensures.never never)
