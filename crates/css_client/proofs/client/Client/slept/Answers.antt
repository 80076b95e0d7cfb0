-- Nothing is asked, remembered or accepted any more.
use Rattle.std.proofs.Common.{sym, subst}
use Rattle.css_client.specs.Clients.{Client}
use Rattle.css_client.specs.Standing.{StandsFor}
use Rattle.css_client.proofs.Telling.{stands_slept}
use Rattle.css_client.proofs.client.Client.slept.Goals as goal

pub returns-clause-stands : goal.returns-clause-stands
returns-clause-stands c = λ history stands.
    let client : Client = record {
      asked = c.self.inside.asked;
      promises = c.self.inside.promises;
      estimate = c.self.inside.estimate;
      floor = c.self.inside.floor;
      after_sleep = c.self.inside.after_sleep;
    } in
    rw (c.clear.ensures, c.clear-2.ensures, c.max-self-inside.ensures)
    (stands_slept client history c.new.result
    (subst (λ (k : Client). StandsFor k history) (sym c.self.view_is) stands) c.new.ensures.stands)
