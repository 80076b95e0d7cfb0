use Rattle.std.proofs.Common.{◌≡◌, reverse, take}
use Rattle.css_agree.specs.Named as names
use Rattle.css_agree.proofs.named.number_of_best.Given as goal

-- the best of those so far
abbrev pub invariant-loop-named : goal.invariant-loop-named
invariant-loop-named l = l.found ≡ names.best_of l.end l.local l.reading (reverse (take l.named-index l.kept))
