use Rattle.std.proofs.Common.{ℤ, Some, sym, ap, subst, ◌∙◌}
use Rattle.std.proofs.Math.Facts.{to_z-of_z}
use Rattle.css_companion_c.specs.When.{IsShownWithin, IsNeverShown}
use Rattle.css_companion_c.proofs.Behind.{of}
use Rattle.css_companion_c.proofs.css_companion_when.Goals as goal

pub returns-in-Some-clause-truth : goal.returns-in-Some-clause-truth
returns-in-Some-clause-truth c = λ done.
    of (IsShownWithin c.args.tick c.when-code.new.out.from c.when-code.new.out.to) _ _
    (c.in-Some.ensures.taken ∙ ap Some (sym c.deref.ensures))
    (subst (λ (t : ℤ). IsShownWithin t c.when-code.new.out.from c.when-code.new.out.to c.deref.result.now.companion)
    (to_z-of_z c.ranges.tick) (c.when-code.ensures.truth done))

pub returns-in-Some-clause-never : goal.returns-in-Some-clause-never
returns-in-Some-clause-never c = λ never.
    of (IsNeverShown c.args.tick) _ _
    (c.in-Some.ensures.taken ∙ ap Some (sym c.deref.ensures))
    (subst (λ (t : ℤ). IsNeverShown t c.deref.result.now.companion) (to_z-of_z c.ranges.tick)
    (c.when-code.ensures.never never))
