-- The kept answers declare the errors of the accepted ones.
use Rattle.std.proofs.Common.{◌≡◌, ◌∙◌, ◌≤◌, ap, sym, subst, ℕ}
use Rattle.std.specs.Prelude.{reverse}
use Rattle.css_model.specs.Numbers.{max_error}
use Rattle.css_span.specs.Frontiers as frontiers
use Rattle.css_span.specs.Frontiers.{Answers, Frontier}
use Rattle.css_span.proofs.Greatest.{greatest_accepted, greatest_in_range}
use Rattle.css_span.proofs.estimate.Estimate.greatest_error.Goals as goal

pub returns-clause-accepted : goal.returns-clause-accepted
returns-clause-accepted c = λ accepted stands.
    c.greatest_error.ensures
    ∙ ap (λ (ys : Answers). frontiers.greatest_error (reverse ys)) c.deref.ensures.value
    ∙ ap (λ (f : Frontier). frontiers.greatest_error f.kept) c.self.view_is
    ∙ greatest_accepted c.args.self.now accepted stands

pub returns-clause-range : goal.returns-clause-range
returns-clause-range c =
    let kept : c.greatest_error.result ≡ frontiers.greatest_error (reverse c.self.inside.kept.items) =
    c.greatest_error.ensures ∙ ap (λ (ys : Answers). frontiers.greatest_error (reverse ys)) c.deref.ensures.value in
    subst (λ (n : ℕ). n ≤ max_error) (sym kept)
    (greatest_in_range c.self.inside.local c.self.inside.floor (reverse c.self.inside.kept.items) c.self.invariant.kept)
