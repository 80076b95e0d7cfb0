use Rattle.css_drive.specs.Notes.{turn_notes}
use Rattle.css_record.proofs.recorder.RecorderObserves.turned.Goals as goal

pub returns : goal.returns
returns g c from known = c.write.ensures (turn_notes from c.args.clocked.now) (c.line_of.ensures.lines from)
