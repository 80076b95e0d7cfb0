-- what is left of the notes brings the mark to that of all of them
use Rattle.std.proofs.Common.{◌≡◌, drop}
use Rattle.css_follow.specs.Standing.{mark_from, mark_after}
use Rattle.css_follow.proofs.waiting.mark_of.Given as goal

abbrev pub invariant-loop-note : goal.invariant-loop-note
invariant-loop-note l = mark_from l.mark l.tick (drop l.note-index l.notes) ≡ mark_after l.tick l.notes
