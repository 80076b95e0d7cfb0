use Rattle.css_status.proofs.OverLines.{stop_ends, stopped}
use Rattle.css_app.specs.Ended.{line_refused}
use Rattle.css_app.proofs.Commands.{tells_lines}
use Rattle.css_app.proofs.lines.migrate.Goals as goal

pub returns-in-Err : goal.returns-in-Err
returns-in-Err g c =
    let run = c.in-Err.ensures in
    let stop = c.in-Err.stop in
    rw c.line_status.ensures
    (record {
      does = stopped line_refused (λ line why. tt) stop run.ran run.counted_reads run.counted_writes;
      counted = tells_lines (stop_ends line_refused (λ line why. tt) stop run.counted_reads run.counted_writes);
    })
