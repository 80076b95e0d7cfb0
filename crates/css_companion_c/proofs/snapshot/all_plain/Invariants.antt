-- The answers so far stand in their places.
use Rattle.std.proofs.Common.{◌≡◌, length, map, take}
use Rattle.css_companion_c.specs.Snapshots.{MOST_ANSWERS, times_of}
use Rattle.css_companion_c.proofs.snapshot.all_plain.Given as goal

abbrev pub invariant-loop-place : goal.invariant-loop-place
invariant-loop-place l = record {
  room : length l.kept ≡ MOST_ANSWERS;
  same : map times_of (take l.place l.kept) ≡ take l.place l.answers;
}
