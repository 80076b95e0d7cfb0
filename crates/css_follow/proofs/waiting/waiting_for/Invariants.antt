-- the cues so far, with their marks
use Rattle.std.proofs.Common.{◌≡◌, map, take}
use Rattle.css_follow.specs.Standing.{waiting_after}
use Rattle.css_follow.proofs.waiting.waiting_for.Given as goal

abbrev pub invariant-loop-cue : goal.invariant-loop-cue
invariant-loop-cue l = l.list.items ≡ map (waiting_after l.notes) (take l.cue-index l.cues)
