-- The client stands for the history with the request.
use Rattle.std.proofs.Common.{◌≤◌, ◌∙◌, ap, sym, subst, List, ℕ, ◌+◌, ◌∷◌}
use Rattle.std.specs.Prelude.{Ok}
use Rattle.css_model.specs.declared.Message.{Message}
use Rattle.css_model.specs.declared.Why.TheVariants as why
use Rattle.css_model.specs.History.{Sent, Clock}
use Rattle.css_client.specs.Clients.{Client, RemembersAll, RemembersOnly}
use Rattle.css_client.specs.Standing.{StandsFor}
use Rattle.css_client.proofs.Asking.{stands_asked}
use Rattle.css_client.proofs.client.Client.ask.Goals as goal

pub returns-clause-stands : goal.returns-clause-stands
returns-clause-stands c = λ history peer stands.
    let client : Client = record {
      asked = c.self.inside.asked;
      promises = c.self.inside.promises;
      estimate = c.self.inside.estimate;
      floor = c.self.inside.floor;
      after_sleep = c.self.inside.after_sleep;
    } in
    let promises = c.note_request.new.promises in
    subst (λ (asked : List ℕ). StandsFor (record {
      asked = asked;
      promises = promises;
      estimate = c.self.inside.estimate;
      floor = c.args.reading;
      after_sleep = c.args.reading + 1;
    })
    (Sent peer c.encode.result ∷ Clock why.Ask c.args.reading ∷ history)) (sym c.note_request.ensures.asked)
    (stands_asked client history peer c.args.reading c.encode.result promises
    (subst (λ (k : Client). StandsFor k history) (sym c.self.view_is) stands)
    (subst (λ (k : Client). k.floor ≤ c.args.reading) (sym c.self.view_is) c.requires.floor)
    c.self.invariant.1.later
    (c.encode.ensures.read_back ∙ ap (λ (m : Message). Ok m) c.request.ensures.value)
    (λ rising. subst (λ (asked : List ℕ). RemembersAll c.args.reading asked c.self.inside.promises promises)
    c.note_request.ensures.asked (c.note_request.ensures.all rising))
    (λ rising only. subst (λ (asked : List ℕ). RemembersOnly asked promises) c.note_request.ensures.asked
    (c.note_request.ensures.only rising only)))
