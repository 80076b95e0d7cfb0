use Rattle.std.proofs.Common.{◌≡◌, Option, Some, sym, ap, subst, ◌∙◌}
use Rattle.css_companion_c.specs.Codes.{DONE, noticed}
use Rattle.css_companion_c.specs.Noticing.{IsAgreedCode, IsTheirs, IsTrueOfAll}
use Rattle.css_companion_c.specs.declared.follower.Follower.{Follower}
use Rattle.css_companion_c.proofs.Behind.{has}
use Rattle.css_companion_c.proofs.css_companion_agreed.Goals as goal

pub returns-in-Some-clause-shared : goal.returns-in-Some-clause-shared
returns-in-Some-clause-shared c = λ done.
    has (IsTheirs c.args.reading c.agreed-code.new.out) _ _
    (c.in-Some.ensures.taken ∙ ap Some (sym c.deref.ensures)) (c.agreed-code.ensures.shared done)

pub returns-in-Some-clause-truth : goal.returns-in-Some-clause-truth
returns-in-Some-clause-truth c = λ done.
    has (IsTrueOfAll c.args.reading c.agreed-code.new.out) _ _
    (c.in-Some.ensures.taken ∙ ap Some (sym c.deref.ensures)) (c.agreed-code.ensures.truth done)

pub returns-in-Some-clause-code : goal.returns-in-Some-clause-code
returns-in-Some-clause-code c = λ opened.
    let is = c.in-Some.ensures.taken ∙ ap Some (sym c.deref.ensures) in
    has (IsAgreedCode c.args.reading c.agreed-code.result) _ _ is
    (c.agreed-code.ensures.code (subst (λ (kept : Option Follower). noticed kept c.args.reading ≡ DONE) is opened))
