use Rattle.std.proofs.Common.{◌∷◌}
use Rattle.css_drive.specs.Notes.{turn_notes}
use Rattle.css_record.proofs.recorder.RecorderObserves.reported.Goals as goal

pub returns : goal.returns
returns g c from known = c.write.ensures (_ ∷ turn_notes from c.args.clocked.now) (c.report_lines.ensures from)
