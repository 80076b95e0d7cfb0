-- Each kept answer stays possible, and its span is true.
use Rattle.std.proofs.Common.{◌≤◌, arith, subst, sym}
use Rattle.std.specs.Prelude.{All}
use Rattle.css_span.specs.Frontiers.{IsPossible}
use Rattle.css_client.specs.Clients.{Client, local_of}
use Rattle.css_client.proofs.Telling.{kept_hold}
use Rattle.css_client.proofs.client.Client.answers.Goals as goal

pub returns-clause-possible : goal.returns-clause-possible
returns-clause-possible c = λ reading later.
    let risen : c.self.inside.floor ≤ reading = subst (λ (k : Client). k.floor ≤ reading) (sym c.self.view_is) later in
    subst (λ (k : Client). All (IsPossible (local_of k) reading) k.estimate.kept) c.self.view_is
    (c.answers.ensures.possible reading (omega (arith, risen, c.self.invariant.1.estimate)))

pub returns-clause-holds : goal.returns-clause-holds
returns-clause-holds c = kept_hold _
