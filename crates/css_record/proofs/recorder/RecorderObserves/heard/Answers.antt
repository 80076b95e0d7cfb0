use Rattle.std.proofs.Common.{[], ◌∷◌}
use Rattle.css_record.proofs.recorder.RecorderObserves.heard.Goals as goal

pub returns : goal.returns
returns g c from known = c.write.ensures (_ ∷ []) (c.heard_line.ensures from)
