use Rattle.std.proofs.Common.{ℤ, subst}
use Rattle.std.proofs.Math.Facts.{to_z-of_z}
use Rattle.css_companion_c.specs.When.{LooksAt}
use Rattle.css_companion_c.proofs.next.next.Goals as goal

pub returns-clause-look : goal.returns-clause-look
returns-clause-look c = λ _.
    subst (λ (t : ℤ). LooksAt t c.first_look.result c.args.follower.now.companion) (to_z-of_z c.ranges.tick)
    c.first_look.ensures
