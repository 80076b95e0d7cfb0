use Rattle.css_drive.specs.Notes.{landing_notes}
use Rattle.css_record.proofs.recorder.RecorderObserves.landed.Goals as goal

pub returns : goal.returns
returns g c from known =
    c.write.ensures (landing_notes from c.args.clocked.now c.args.bytes.now) (c.landed_line.ensures from)
