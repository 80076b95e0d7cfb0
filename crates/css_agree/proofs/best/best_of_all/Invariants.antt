use Rattle.std.proofs.Common.{◌≡◌, reverse, take}
use Rattle.css_agree.specs.Bests as bests
use Rattle.css_agree.proofs.best.best_of_all.Given as goal

-- the best of those so far
abbrev pub invariant-loop-best : goal.invariant-loop-best
invariant-loop-best l = l.found ≡ bests.best_of l.local l.reading (reverse (take l.best-index l.kept))
