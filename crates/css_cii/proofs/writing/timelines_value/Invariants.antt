use Rattle.css_cii.proofs.Listing.{IsWritten}
use Rattle.css_cii.proofs.writing.timelines_value.Given as goal

abbrev pub invariant-loop-timeline : goal.invariant-loop-timeline
invariant-loop-timeline l = IsWritten l.timelines l.values.items l.timeline-index
