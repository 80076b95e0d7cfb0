-- The narrowest of the kept answers is that of the accepted ones, and it is still possible.
use Rattle.std.proofs.Common.{◌≡◌, ◌≤◌, ◌∙◌, ap, sym, subst, ℕ}
use Rattle.std.specs.Prelude.{All, Option, Some, None, IfSome, reverse}
use Rattle.css_model.specs.WallClock.{Answer, Local, scaled_width, narrowest}
use Rattle.css_span.specs.Frontiers.{Answers, Frontier, IsPossible}
use Rattle.css_span.proofs.Leasts.{least_by-of_all}
use Rattle.css_span.proofs.Standing.{possible-later}
use Rattle.css_span.proofs.estimate.Estimate.answer.Goals as goal

-- what is narrowest of possible answers is possible
narrowest_possible : (own : Local) (reading : ℕ) (kept : Answers) (found : Option Answer)
    → All (IsPossible own reading) kept → narrowest own reading kept ≡ found → IfSome found (IsPossible own reading)
narrowest_possible own reading kept None possible e = tt
narrowest_possible own reading kept (Some answer) possible e =
    least_by-of_all (IsPossible own reading) (λ (a : Answer). scaled_width own a reading) kept answer possible e

of_kept : (c : goal.After-narrowest) → c.narrowest.result
    ≡ narrowest c.self.inside.local c.args.reading (reverse c.self.inside.kept.items)
of_kept c =
    c.narrowest.ensures ∙ ap (λ (ys : Answers). narrowest c.self.inside.local c.args.reading (reverse ys))
    c.deref.ensures.value

pub returns-clause-narrowest : goal.returns-clause-narrowest
returns-clause-narrowest c = λ accepted stands.
    of_kept c ∙ ap (λ (f : Frontier). narrowest f.local c.args.reading f.kept) c.self.view_is
    ∙ stands.narrowest c.args.reading

pub returns-clause-possible : goal.returns-clause-possible
returns-clause-possible c =
    let own = c.self.inside.local in
    let kept = reverse c.self.inside.kept.items in
    let risen : c.self.inside.floor ≤ c.args.reading =
    subst (λ (f : Frontier). f.floor ≤ c.args.reading) (sym c.self.view_is) c.requires.floor in
    let later : All (IsPossible own c.args.reading) kept =
    possible-later own c.self.inside.floor c.args.reading kept c.self.invariant.local risen c.self.invariant.kept in
    subst (λ (f : Frontier). IfSome c.narrowest.result (IsPossible f.local c.args.reading)) c.self.view_is
    (narrowest_possible own c.args.reading kept c.narrowest.result later (sym (of_kept c)))
