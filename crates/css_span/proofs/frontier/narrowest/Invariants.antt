use Rattle.std.proofs.Common.{◌≡◌, take}
use Rattle.std.specs.Prelude.{reverse}
use Rattle.css_model.specs.WallClock as wall_clock
use Rattle.css_span.proofs.frontier.narrowest.Given as goal

-- the best is the narrowest of the answers so far
abbrev pub invariant-loop-answer : goal.invariant-loop-answer
invariant-loop-answer l = l.best ≡ wall_clock.narrowest l.local l.reading (reverse (take l.answer-index l.answers))
