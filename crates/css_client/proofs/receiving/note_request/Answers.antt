-- The ring has an oldest request, and what is remembered since that is what is asked.
use Rattle.std.proofs.Common.{◌≡◌, ◌∙◌, sym, ap, subst, ℕ, List, ◌∷◌, take}
use Rattle.std.specs.Prelude.{Option, None}
use Rattle.std.specs.List.{last_or}
use Rattle.css_client.specs.declared.promises.Promise.{Promise}
use Rattle.css_client.specs.Clients.{RemembersAll, RemembersOnly}
use Rattle.css_client.proofs.Forgetting.{remembers_all, remembers_only, none_remembered, last_or-none}
use Rattle.css_client.proofs.receiving.note_request.Goals as goal

oldest : (kept asked : List ℕ) (result found : Option ℕ) → asked ≡ kept → result ≡ last_or None asked → result ≡ found
    → last_or None kept ≡ found
oldest kept asked result found same is e = ap (λ (xs : List ℕ). last_or None xs) (sym same) ∙ sym is ∙ e

pub returns-then-are_none-clause-only : goal.returns-then-are_none-clause-only
returns-then-are_none-clause-only c = λ rising only.
    let old = c.args.promises.now in
    none_remembered _ _ old (c.are_none.ensures c.if-are_none.true) only

pub returns-in-Some-clause-all : goal.returns-in-Some-clause-all
returns-in-Some-clause-all c = λ rising.
    let old = c.args.promises.now in
    subst (λ (asked : List ℕ). RemembersAll c.args.request asked old c.forget_before.new.self) (sym c.note.ensures)
    (subst (λ (ps : List Promise). RemembersAll c.args.request (take 64 (c.args.request ∷ c.args.asked.now)) old ps)
    (sym c.forget_before.ensures)
    (remembers_all 63 c.args.request c.in-Some.oldest c.args.asked.now old
    (oldest _ _ _ _ c.note.ensures c.oldest.ensures c.in-Some.is) rising))

pub returns-in-Some-clause-only : goal.returns-in-Some-clause-only
returns-in-Some-clause-only c = λ rising only.
    let old = c.args.promises.now in
    subst (λ (asked : List ℕ). RemembersOnly asked c.forget_before.new.self) (sym c.note.ensures)
    (subst (λ (ps : List Promise). RemembersOnly (take 64 (c.args.request ∷ c.args.asked.now)) ps)
    (sym c.forget_before.ensures)
    (remembers_only 64 c.args.request c.in-Some.oldest c.args.asked.now old
    (oldest _ _ _ _ c.note.ensures c.oldest.ensures c.in-Some.is) rising only))

pub returns-in_default-clause-only : goal.returns-in_default-clause-only
returns-in_default-clause-only c = λ rising only.
    absurd (last_or-none c.args.request (take 63 c.args.asked.now)
    (oldest _ _ _ _ c.note.ensures c.oldest.ensures c.in_default.is))
