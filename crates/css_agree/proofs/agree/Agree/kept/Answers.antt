use Rattle.std.proofs.Common.{ap, arith, length}
use Rattle.css_agree.specs.Keeping.{Kept}
use Rattle.css_agree.proofs.Standing.{kept-holds}
use Rattle.css_agree.proofs.agree.Agree.kept.Goals as goal

pub returns-clause-errors : goal.returns-clause-errors
returns-clause-errors c = λ added stands.
    omega (arith, ap (λ (k : Kept). length k.bests) c.self.view_is, (kept-holds c.args.self.now added stands).count)
