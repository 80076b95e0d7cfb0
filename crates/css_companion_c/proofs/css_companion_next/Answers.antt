use Rattle.std.proofs.Common.{ℤ, Some, sym, ap, subst, ◌∙◌}
use Rattle.std.proofs.Math.Facts.{to_z-of_z}
use Rattle.css_companion_c.specs.Until.{IsDue}
use Rattle.css_companion_c.specs.When.{LooksAt}
use Rattle.css_companion_c.proofs.Behind.{has, of}
use Rattle.css_companion_c.proofs.css_companion_next.Goals as goal

pub returns-in-Some-clause-ask : goal.returns-in-Some-clause-ask
returns-in-Some-clause-ask c = λ done.
    has (IsDue c.args.width c.next-code.new.ask) _ _
    (c.in-Some.ensures.taken ∙ ap Some (sym c.deref.ensures)) (c.next-code.ensures.ask done)

pub returns-in-Some-clause-look : goal.returns-in-Some-clause-look
returns-in-Some-clause-look c = λ done.
    of (LooksAt c.args.tick c.next-code.new.look) _ _
    (c.in-Some.ensures.taken ∙ ap Some (sym c.deref.ensures))
    (subst (λ (t : ℤ). LooksAt t c.next-code.new.look c.deref.result.now.companion)
    (to_z-of_z c.ranges.tick) (c.next-code.ensures.look done))
