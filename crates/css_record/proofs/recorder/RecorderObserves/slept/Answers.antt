use Rattle.std.proofs.Common.{[], ◌∷◌, refl}
use Rattle.css_record.proofs.recorder.RecorderObserves.slept.Goals as goal

pub returns : goal.returns
returns g c from = c.write.ensures (_ ∷ []) (c.line_of.ensures.awake refl)
