use Rattle.std.proofs.Common.{◌+◌, Some, sym, ap, ◌∙◌}
use Rattle.css_companion.specs.Standing.{Companion}
use Rattle.css_companion_c.specs.Until.{IsNarrowUntil, IsWideAt}
use Rattle.css_companion_c.proofs.Behind.{of}
use Rattle.css_companion_c.proofs.css_companion_until.Goals as goal

pub returns-in-Some-clause-truth : goal.returns-in-Some-clause-truth
returns-in-Some-clause-truth c = λ done.
    of (IsNarrowUntil c.args.width c.until-code.new.out) _ _
    (c.in-Some.ensures.taken ∙ ap Some (sym c.deref.ensures)) (c.until-code.ensures.truth done)

pub returns-in-Some-clause-last : goal.returns-in-Some-clause-last
returns-in-Some-clause-last c = λ done.
    of (IsWideAt c.args.width (c.until-code.new.out + 1)) _ _
    (c.in-Some.ensures.taken ∙ ap Some (sym c.deref.ensures)) (c.until-code.ensures.last done)

pub returns-in-Some-clause-never : goal.returns-in-Some-clause-never
returns-in-Some-clause-never c = λ never.
    of (λ (k : Companion). IsWideAt c.args.width k.client.floor k) _ _
    (c.in-Some.ensures.taken ∙ ap Some (sym c.deref.ensures)) (c.until-code.ensures.never never)
