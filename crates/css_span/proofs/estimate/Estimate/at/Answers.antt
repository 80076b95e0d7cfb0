-- The narrowest answer is possible, and there is one unless none was accepted.
use Rattle.std.proofs.Common.{rules, ◌≡◌, ◌∙◌, sym, subst}
use Rattle.std.specs.Prelude.{◌≤ℤ◌, pos, Option, None, IfSome}
use Rattle.css_model.specs.WallClock.{Answer, scaled_width, narrowest}
use Rattle.css_span.specs.Frontiers.{Frontier, IsPossible}
use Rattle.css_span.proofs.Leasts.{least_by-none}
use Rattle.css_span.proofs.estimate.Estimate.at.Goals as goal

pub returns-in_err-answer-clause-none : goal.returns-in_err-answer-clause-none
returns-in_err-answer-clause-none c = λ accepted stands.
    let of_accepted : narrowest c.args.self.now.local c.args.reading accepted ≡ None =
    sym (c.answer.ensures.narrowest accepted stands) ∙ c.in_err-answer.was in (
      λ _. least_by-none (λ (a : Answer). scaled_width c.args.self.now.local a c.args.reading) accepted of_accepted,
      λ _.
          search rules,
    )

pub span-requires-clause-possible : goal.span-requires-clause-possible
span-requires-clause-possible c =
    let possible : IsPossible c.args.self.now.local c.args.reading c.in_ok-answer.answer =
    subst (λ (o : Option Answer). IfSome o (IsPossible c.args.self.now.local c.args.reading)) c.in_ok-answer.was
    c.answer.ensures.possible in
    subst (λ (f : Frontier). pos 0 ≤ℤ scaled_width f.local c.in_ok-answer.answer c.args.reading)
    (sym c.self.view_is) possible.wide
