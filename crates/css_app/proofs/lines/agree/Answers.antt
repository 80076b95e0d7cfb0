-- What a run over answers adds to the sink keeps the promise, however it ends.
use Rattle.std.proofs.Common.{ℕ, arith}
use Rattle.std.proofs.lemmas.Grind.{common_steps}
use Rattle.css_lines.specs.declared.reader.Refusal.{Refusal}
use Rattle.css_agree.specs.declared.reader.Cause.{Cause}
use Rattle.css_agree.proofs.Promise.{promised_done, promised_stop}
use Rattle.css_status.proofs.OverLines.{IsOfLine, read_all, stop_ends, stopped}
use Rattle.css_app.specs.Ended.{agree_refused}
use Rattle.css_app.proofs.Commands.{tells_lines}
use Rattle.css_app.proofs.lines.agree.Goals as goal

pub returns-in-Ok-clause-does : goal.returns-in-Ok-clause-does
returns-in-Ok-clause-does g c =
    record { lines = read_all c.in-Ok.ensures.ran; promise = promised_done _ _ _ _ _ c.in-Ok.ensures.done }

of_line : (line : ℕ) (why : Refusal Cause) → IsOfLine (agree_refused line why)
of_line line why = grind (arith, common_steps)

pub returns : goal.returns
returns g c =
    let run = c.in-Err.ensures in
    let stop = c.in-Err.stop in
    rw c.agree_status.ensures
    (record {
      does = record {
        lines = stopped agree_refused of_line stop run.ran run.counted_reads run.counted_writes;
        promise = promised_stop _ _ _ _ stop run.stopped;
      };
      counted = tells_lines (stop_ends agree_refused of_line stop run.counted_reads run.counted_writes);
    })
