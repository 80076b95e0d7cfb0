use Rattle.std.proofs.Common.{Some, ◌∷◌, sym, ap, ◌∙◌}
use Rattle.css_model.specs.History.{History, Slept}
use Rattle.css_companion_c.specs.Noticing.{Agrees, BeginsAnew}
use Rattle.css_companion_c.proofs.Behind.{becomes}
use Rattle.css_companion_c.proofs.css_companion_slept.Goals as goal

pub returns-in-Some-clause-anew : goal.returns-in-Some-clause-anew
returns-in-Some-clause-anew c = λ _.
    becomes (λ old new. (history : History) → Agrees old history → BeginsAnew new (Slept ∷ history)) _ _ _ _
    (c.in-Some.ensures.taken ∙ ap Some (sym c.deref_mut.ensures.value)) c.put.ensures.held c.slept.ensures.anew
