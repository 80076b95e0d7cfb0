use Rattle.std.proofs.Common.{refl}
use Rattle.css_app.proofs.Commands.{watched_last, watched_tells}
use Rattle.css_app.proofs.live.watch_television.Goals as goal

pub returns : goal.returns
returns g c =
    let made = c.watch.ensures in
    let ended = c.watch.result in
    rw c.watch_status.ensures.value
    (record {
      makes = record {
        plan = made.watches.0;
        planned = made.watches.1;
        ended = ended;
        watched = made.watches.2;
        tells = refl;
      };
      complete = watched_last ended made.write_faults made.net_faults;
      counted = λ reads spawns. watched_tells ended made.write_faults made.net_faults made.dial_faults;
      no_usage = rw c.watch_status.ensures.value at c.watch_status.ensures.no_usage;
    })
