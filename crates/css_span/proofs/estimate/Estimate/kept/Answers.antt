-- No two of the kept answers declare the same error, and they declare those of the accepted.
use Rattle.std.proofs.Common.{◌≡◌, ◌∙◌, ap, arith, length}
use Rattle.std.proofs.lemmas.List.{length-reverse}
use Rattle.css_span.specs.Frontiers.{Frontier}
use Rattle.css_span.proofs.Counting.{length-kept}
use Rattle.css_span.proofs.estimate.Estimate.kept.Goals as goal

pub returns-clause-errors : goal.returns-clause-errors
returns-clause-errors c = λ accepted stands.
    let counted : c.len.result ≡ length c.args.self.now.kept =
    omega (arith, length-reverse c.self.inside.kept.items, ap (λ (f : Frontier). length f.kept) c.self.view_is) in
    counted ∙ length-kept c.args.self.now accepted stands
