use Rattle.std.proofs.Common.{ℤ, Some, sym, ap, subst, ◌∙◌}
use Rattle.std.proofs.Math.Facts.{to_z-of_z}
use Rattle.css_companion_c.specs.Leads.{HoldsTheLead, IsTheLead}
use Rattle.css_companion_c.proofs.Behind.{of}
use Rattle.css_companion_c.proofs.css_companion_lead.Goals as goal

pub returns-in-Some-clause-lead : goal.returns-in-Some-clause-lead
returns-in-Some-clause-lead c = λ done.
    of (IsTheLead c.args.reading c.args.tick c.lead-code.new.out) _ _
    (c.in-Some.ensures.taken ∙ ap Some (sym c.deref.ensures))
    (subst (λ (t : ℤ). IsTheLead c.args.reading t c.lead-code.new.out c.deref.result.now.companion)
    (to_z-of_z c.ranges.tick) (c.lead-code.ensures.lead done))

pub returns-in-Some-clause-truth : goal.returns-in-Some-clause-truth
returns-in-Some-clause-truth c = λ done.
    of (HoldsTheLead c.args.reading c.args.tick c.lead-code.new.out) _ _
    (c.in-Some.ensures.taken ∙ ap Some (sym c.deref.ensures))
    (subst (λ (t : ℤ). HoldsTheLead c.args.reading t c.lead-code.new.out c.deref.result.now.companion)
    (to_z-of_z c.ranges.tick) (c.lead-code.ensures.truth done))
