-- Each kept answer stays possible.
use Rattle.std.proofs.Common.{◌≤◌, subst, sym}
use Rattle.std.specs.Prelude.{All, reverse}
use Rattle.css_span.specs.Frontiers.{Frontier, IsPossible}
use Rattle.css_span.proofs.Standing.{possible-later}
use Rattle.css_span.proofs.estimate.Estimate.answers.Goals as goal

pub returns-clause-possible : goal.returns-clause-possible
returns-clause-possible c = λ reading later.
    let risen : c.self.inside.floor ≤ reading =
    subst (λ (f : Frontier). f.floor ≤ reading) (sym c.self.view_is) later in
    subst (λ (f : Frontier). All (IsPossible f.local reading) f.kept) c.self.view_is
    (possible-later c.self.inside.local c.self.inside.floor reading (reverse c.self.inside.kept.items)
    c.self.invariant.local risen c.self.invariant.kept)
