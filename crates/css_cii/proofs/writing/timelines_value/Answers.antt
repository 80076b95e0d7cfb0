-- Each turn writes one timeline more.
use Rattle.std.proofs.Common.{◌∙◌, ap}
use Rattle.serde_json.specs.Data.{array}
use Rattle.serde_json.proofs.Views.{view-Array}
use Rattle.css_cii.proofs.Listing.{one_written, all_written}
use Rattle.css_cii.proofs.writing.timelines_value.Goals as goal

pub loop-timeline-preserved : goal.loop-timeline-preserved
loop-timeline-preserved c =
    rw (c.in_ok-push.ensures.items) (one_written c.args.timelines.now c.loop-timeline.values.items
    c.loop-timeline.timeline-index c.timeline-item.result _ c.loop-timeline-test.true c.timeline-item.is
    c.in_ok-timeline_value.ensures.value c.in_ok-timeline_value.ensures.in_range c.loop-timeline.invariant)

pub returns-clause-value : goal.returns-clause-value
returns-clause-value c = view-Array c.loop-timeline.values
    ∙ ap array (all_written c.args.timelines.now _ _ c.loop-timeline-test.false c.loop-timeline.invariant)
