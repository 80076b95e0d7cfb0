-- The best is the narrowest of the answers so far, and they are in range.
use Rattle.std.proofs.Common.{◌≡◌, map, take}
use Rattle.std.specs.Prelude.{reverse, All}
use Rattle.css_model.specs.WallClock.{IsAnswer, narrowest}
use Rattle.css_companion_c.specs.Snapshots.{times_of}
use Rattle.css_companion_c.proofs.snapshot.narrowest_of.Given as goal

abbrev pub invariant-loop-answer : goal.invariant-loop-answer
invariant-loop-answer l = record {
  best : l.best ≡ narrowest l.local l.reading (reverse (map times_of (take l.answer-index l.kept)));
  range : All (λ k. IsAnswer (times_of k)) (take l.answer-index l.kept);
}
