-- What a replay adds to the sink keeps the promise, however it ends.
use Rattle.std.proofs.Common.{ℕ, arith, rules}
use Rattle.std.proofs.lemmas.Grind.{common_steps}
use Rattle.css_lines.specs.declared.reader.Refusal.{Refusal}
use Rattle.css_lines.proofs.Induction.{keeps_done, keeps_stop}
use Rattle.css_replay.specs.Ended.{replay_refused}
use Rattle.css_replay.specs.Headline.{KeepsPromise}
use Rattle.css_replay.specs.Replayed.{replayed}
use Rattle.css_replay.specs.declared.reader.Cause.{Cause}
use Rattle.css_status.proofs.OverLines.{IsOfLine, read_all, stop_ends, stopped}
use Rattle.css_replay.proofs.Texts.{so_far, in_all, front_keeps}
use Rattle.css_replay.proofs.replaying.replay.Goals as goal

pub returns-in-Ok-clause-does : goal.returns-in-Ok-clause-does
returns-in-Ok-clause-does g c =
    let run = c.in-Ok.ensures in
    let f = run.done in
    let keeps = keeps_done replayed KeepsPromise so_far in_all front_keeps f.read f.printed f.all in
    record { lines = read_all run.ran; promise = search rules }

of_line : (line : ℕ) (why : Refusal Cause) → IsOfLine (replay_refused line why)
of_line line why = grind (arith, common_steps)

pub returns-in-Err : goal.returns-in-Err
returns-in-Err g c =
    let run = c.in-Err.ensures in
    let stop = c.in-Err.stop in
    let s = run.stopped in
    let keeps = keeps_stop replayed KeepsPromise so_far in_all front_keeps s.read s.printed _ stop s.ends in
    let ends = stop_ends replay_refused of_line stop run.counted_reads run.counted_writes in
    rw c.status_of.ensures
    (record {
      does = record {
        lines = stopped replay_refused of_line stop run.ran run.counted_reads run.counted_writes;
        promise = search rules;
      };
      quiet = ends.quiet;
      counted_reads = ends.reads;
      counted_writes = ends.writes;
    })
