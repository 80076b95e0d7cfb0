-- The client's clauses, of the companion that it is a part of.
use Rattle.std.proofs.Common.{◌≤◌, subst, sym}
use Rattle.std.specs.Prelude.{All}
use Rattle.css_span.specs.Frontiers.{IsPossible}
use Rattle.css_client.specs.Standing.{KeptContainTheWall}
use Rattle.css_companion.specs.Standing.{Companion, own_of}
use Rattle.css_companion.proofs.companion.Companion.answers.Goals as goal

pub returns-clause-possible : goal.returns-clause-possible
returns-clause-possible c = λ reading later.
    subst (λ (k : Companion). All (IsPossible (own_of k) reading) k.client.estimate.kept) c.self.view_is
    (c.answers.ensures.possible reading
    (subst (λ (k : Companion). k.client.floor ≤ reading) (sym c.self.view_is) later))

pub returns-clause-holds : goal.returns-clause-holds
returns-clause-holds c =
    subst (λ (k : Companion). KeptContainTheWall k.client) c.self.view_is c.answers.ensures.holds
