use Rattle.std.proofs.Common.{ℤ, subst}
use Rattle.std.proofs.Math.Facts.{to_z-of_z}
use Rattle.css_companion_c.specs.When.{IsShownWithin, IsNeverShown}
use Rattle.css_companion_c.proofs.when.found.Goals as goal

pub returns-in-Ok-clause-truth : goal.returns-in-Ok-clause-truth
returns-in-Ok-clause-truth c = λ done.
    subst (λ (t : ℤ). IsShownWithin t c.between.new.out.from c.between.new.out.to c.args.companion.now)
    (to_z-of_z c.ranges.tick) (c.between.ensures.truth done)

pub returns-in-Ok-clause-never : goal.returns-in-Ok-clause-never
returns-in-Ok-clause-never c = λ never.
    subst (λ (t : ℤ). IsNeverShown t c.args.companion.now) (to_z-of_z c.ranges.tick) (c.between.ensures.never never)
