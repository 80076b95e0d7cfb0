use Rattle.std.proofs.Common.{refl}
use Rattle.css_app.proofs.Commands.{as_due, driven_tells}
use Rattle.css_app.proofs.live.record_companion.Goals as goal

pub returns : goal.returns
returns g c =
    let run = c.drive_record.ensures in
    let ran = run.recorded in
    let ended = c.drive_record.result in
    rw c.status_of.ensures.value
    (record {
      makes = record { ended = ended; recorded = ran; tells = refl };
      complete = as_due ran.history ended ran.told ran.proper ran.ends run.write_faults run.net_faults;
      counted = λ reads spawns. driven_tells ended run.write_faults run.net_faults run.dial_faults;
      no_usage = rw c.status_of.ensures.value at c.status_of.ensures.no_usage;
    })
