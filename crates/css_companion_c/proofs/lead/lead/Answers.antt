use Rattle.std.proofs.Common.{ℤ, ◌≡◌, ◌∙◌, true, false, sym, subst}
use Rattle.std.proofs.Math.Facts.{to_z-of_z}
use Rattle.css_companion_c.specs.Leads.{HoldsTheLead, lead_at}
use Rattle.css_companion_c.proofs.Leading.{told_code, told_lead, holds}
use Rattle.css_companion_c.proofs.lead.lead.Goals as goal

pub returns-in-None-clause-code : goal.returns-in-None-clause-code
returns-in-None-clause-code c = λ _ history known.
    told_code c.in-Some.span c.in-Ok.timing c.args.tick c.lead_at.result false
    (subst (λ (t : ℤ). c.lead_at.result ≡ lead_at c.in-Ok.timing t c.in-Some.span) (to_z-of_z c.ranges.tick)
    c.lead_at.ensures.value)
    c.in-None.ensures.fits _ _ (c.in-Some.ensures.span _ history known) (c.in-Ok.ensures.meaning history known)

pub returns-in-Some-ends_of-clause-code : goal.returns-in-Some-ends_of-clause-code
returns-in-Some-ends_of-clause-code c = λ _ history known.
    told_code c.in-Some.span c.in-Ok.timing c.args.tick c.lead_at.result true
    (subst (λ (t : ℤ). c.lead_at.result ≡ lead_at c.in-Ok.timing t c.in-Some.span) (to_z-of_z c.ranges.tick)
    c.lead_at.ensures.value)
    c.in-Some-ends_of.ensures.fits _ _ (c.in-Some.ensures.span _ history known)
    (c.in-Ok.ensures.meaning history known)

pub returns-in-Some-ends_of-clause-lead : goal.returns-in-Some-ends_of-clause-lead
returns-in-Some-ends_of-clause-lead c = λ _ history known.
    told_lead c.in-Some.span c.in-Ok.timing c.args.tick c.lead_at.result _
    (subst (λ (t : ℤ). c.lead_at.result ≡ lead_at c.in-Ok.timing t c.in-Some.span) (to_z-of_z c.ranges.tick)
    c.lead_at.ensures.value)
    c.in-Some-ends_of.ensures.value _ _ (c.in-Some.ensures.span _ history known)
    (c.in-Ok.ensures.meaning history known)

pub returns-in-Some-ends_of-clause-truth : goal.returns-in-Some-ends_of-clause-truth
returns-in-Some-ends_of-clause-truth c = λ _.
    subst (λ (t : ℤ). HoldsTheLead c.args.reading t c.in-Some-ends_of.lead c.args.follower.now.companion)
    (to_z-of_z c.ranges.tick)
    (holds c.args.follower.now.companion c.args.reading _ c.in-Some.span c.in-Ok.timing c.in-Some-ends_of.lead
    c.in-Some.ensures.holds (λ history known. sym (c.in-Ok.ensures.meaning history known)) c.lead_at.ensures.units
    (sym c.lead_at.ensures.value ∙ c.in-Some-ends_of.ensures.value))
