use Rattle.std.proofs.Common.{take, ◌∙◌}
use Rattle.css_outside.proofs.Known.{consumes_more}
use Rattle.css_app.proofs.inputs.take_bytes.Goals as goal

pub pieces-preserved : goal.pieces-preserved
pieces-preserved g c = record {
  took = rw c.in-Ok-extend_from_slice.ensures.items
      (consumes_more _ _ _ c.pieces.text.items (take c.in-Ok.count c.read.new.into) c.pieces.invariant.took
      c.in-Ok.ensures.bytes.0);
  counted = c.in-Ok.ensures.counted ∙ c.pieces.invariant.counted;
}
