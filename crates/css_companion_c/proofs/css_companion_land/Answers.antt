use Rattle.std.proofs.Common.{ℕ, Some, ◌∷◌, sym, ap, ◌∙◌, inr, subst, arith}
use Rattle.css_model.specs.declared.Why.TheVariants as why
use Rattle.css_model.specs.History.{History, Took, Clock}
use Rattle.css_companion.specs.Standing.{StandsFor, own_of}
use Rattle.css_companion_c.specs.Codes.{Answers, at_reading, DONE}
use Rattle.css_companion_c.specs.Noticing.{Agrees, AreNotAllTrue, Notices, accepted, noticed_code}
use Rattle.css_companion_c.specs.Promises.{Adds}
use Rattle.css_companion_c.specs.declared.follower.Follower.{Follower}
use Rattle.css_companion_c.proofs.Behind.{between, becomes, has}
use Rattle.css_companion_c.proofs.Noticing.{untrue}
use Rattle.css_companion_c.proofs.css_companion_land.Goals as goal

pub returns-in-Some-clause-stands : goal.returns-in-Some-clause-stands
returns-in-Some-clause-stands c = λ done.
    between (λ old new. (peer : ℕ) → Adds (λ _. Unit {0})
    (λ history. Clock why.Land c.args.reading ∷ Took peer c.args.bytes.now ∷ history) old new)
    _ _ _ _ (c.in-Some.ensures.taken ∙ ap Some (sym c.deref_mut.ensures.value)) c.put.ensures.held
    (λ peer history _ known. c.land-code.ensures.stands done history peer known)

pub returns-in-Some-clause-notices : goal.returns-in-Some-clause-notices
returns-in-Some-clause-notices c = λ done.
    becomes (λ old new. (history : History) (peer : ℕ) → StandsFor old.companion history → Agrees old history
    → Notices peer c.args.reading c.args.bytes.now old new history)
    _ _ _ _ (c.in-Some.ensures.taken ∙ ap Some (sym c.deref_mut.ensures.value)) c.put.ensures.held
    (λ history peer known agrees. c.land-code.ensures.notices done history peer known agrees)

pub returns-in-Some-clause-untrue : goal.returns-in-Some-clause-untrue
returns-in-Some-clause-untrue c = λ told.
    has (λ old. (history : History) (peer : ℕ) → StandsFor old.companion history → Agrees old history
    → AreNotAllTrue (own_of old.companion) c.args.reading
    (accepted old.companion (Clock why.Land c.args.reading ∷ Took peer c.args.bytes.now ∷ history)))
    _ _ (c.in-Some.ensures.taken ∙ ap Some (sym c.deref_mut.ensures.value))
    (λ history peer known agrees.
    let old : Follower = c.deref_mut.result.now in
    let Told : ℕ → Type 0 = λ code. Answers (at_reading old.companion c.args.reading DONE)
    (noticed_code old.companion history c.args.reading c.args.bytes.now) code in
    untrue old _ history peer c.args.reading c.args.bytes.now c.land-code.ensures.keeps.1
    (subst Told told (c.land-code.ensures.code history known agrees))
    (c.land-code.ensures.notices (inr (omega (arith, told), omega (arith, told))) history peer known agrees))
