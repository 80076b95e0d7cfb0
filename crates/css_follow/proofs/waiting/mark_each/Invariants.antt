-- the cues so far are marked, and the others are as before
use Rattle.css_follow.specs.Standing.{marked_by}
use Rattle.css_follow.proofs.Passes.{Passes}
use Rattle.css_follow.proofs.waiting.mark_each.Given as goal

abbrev pub invariant-loop-waiting : goal.invariant-loop-waiting
invariant-loop-waiting l = Passes (λ w. w) (marked_by l.report) l.initial.list l.list l.waiting-index
