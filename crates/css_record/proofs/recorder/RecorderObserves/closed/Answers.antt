use Rattle.std.proofs.Common.{[], ◌∷◌}
use Rattle.css_record.proofs.recorder.RecorderObserves.closed.Goals as goal

pub returns : goal.returns
returns g c from = c.write.ensures (_ ∷ []) (c.closed_line.ensures from)
