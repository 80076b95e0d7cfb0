use Rattle.std.proofs.Common.{ℕ, Some, ◌∷◌, sym, ap, ◌∙◌}
use Rattle.css_model.specs.declared.Why.TheVariants as why
use Rattle.css_model.specs.History.{Sent, Clock}
use Rattle.css_companion_c.specs.Handles.{AnswerAlike}
use Rattle.css_companion_c.specs.Noticing.{Asks}
use Rattle.css_companion_c.specs.Promises.{Adds}
use Rattle.css_companion_c.proofs.Behind.{between, becomes}
use Rattle.css_companion_c.proofs.css_companion_ask.Goals as goal

pub returns-in-Some-clause-stands : goal.returns-in-Some-clause-stands
returns-in-Some-clause-stands c = λ done.
    between (λ old new. (peer : ℕ) → Adds (λ _. Unit {0})
    (λ history. Sent peer c.ask-code.new.out ∷ Clock why.Ask c.args.reading ∷ history) old new)
    _ _ _ _ (c.in-Some.ensures.taken ∙ ap Some (sym c.deref_mut.ensures.value)) c.put_back.ensures.held
    (λ peer history _ known. c.ask-code.ensures.stands done history peer known)

pub returns-in-Some-clause-alike : goal.returns-in-Some-clause-alike
returns-in-Some-clause-alike c = λ _.
    between AnswerAlike _ _ _ _ (c.in-Some.ensures.taken ∙ ap Some (sym c.deref_mut.ensures.value))
    c.put_back.ensures.held c.ask-code.ensures.alike

pub returns-in-Some-clause-asks : goal.returns-in-Some-clause-asks
returns-in-Some-clause-asks c = λ done.
    becomes (Asks c.args.reading) _ _ _ _ (c.in-Some.ensures.taken ∙ ap Some (sym c.deref_mut.ensures.value))
    c.put_back.ensures.held (c.ask-code.ensures.asks done)
