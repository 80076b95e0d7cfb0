use Rattle.std.proofs.Common.{◌≡◌, take}
use Rattle.std.specs.Prelude.{reverse}
use Rattle.css_span.specs.Frontiers as frontiers
use Rattle.css_span.proofs.frontier.greatest_error.Given as goal

-- the greatest error of the answers so far
abbrev pub invariant-loop-answer : goal.invariant-loop-answer
invariant-loop-answer l = l.greatest ≡ frontiers.greatest_error (reverse (take l.answer-index l.answers))
