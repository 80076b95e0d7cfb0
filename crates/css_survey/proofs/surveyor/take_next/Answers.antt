-- The survey takes the line that the generator gives.
use Rattle.std.proofs.Common.{◌≡◌, ◌+◌, ℕ, arith, subst}
use Rattle.css_survey.specs.Generated.{line_for}
use Rattle.css_survey.proofs.Surveying.{can_take, has_taken}
use Rattle.css_survey.proofs.surveyor.take_next.Goals as goal

pub take-requires : goal.take-requires
take-requires c =
    let generator = c.args.generator.now in
    can_take c.args.survey.now generator.seed generator.companions c.args.given c.in_ok-line.line c.requires.some
    c.requires.header (omega arith) c.requires.taken
    (subst (λ (n : ℕ). c.in_ok-line.line ≡ line_for generator.seed generator.companions (n + 1)) c.requires.given
    c.in_ok-line.ensures.line)

pub returns-clause-taken : goal.returns-clause-taken
returns-clause-taken c =
    let generator = c.args.generator.now in
    has_taken c.take.result c.args.survey.now c.take.new.self generator.seed generator.companions c.args.given
    c.in_ok-line.line c.requires.some c.requires.header (omega arith) c.requires.taken
    (subst (λ (n : ℕ). c.in_ok-line.line ≡ line_for generator.seed generator.companions (n + 1)) c.requires.given
    c.in_ok-line.ensures.line) c.take.ensures.header c.take.ensures.stands
