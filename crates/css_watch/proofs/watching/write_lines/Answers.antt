use Rattle.std.proofs.Common.{◌∙◌}
use Rattle.std.proofs.lemmas.List.{take_rest}
use Rattle.css_watch.proofs.Writes.{line_fits, line_more, line_part, on_err_from}
use Rattle.css_watch.proofs.watching.write_lines.Goals as goal

pub returns-in_err-write_all-clause-err : goal.returns-in_err-write_all-clause-err
returns-in_err-write_all-clause-err g c =
    let front = rw (take_rest c.args.bytes.now c.loop-written.written) at c.first_line-line.ensures.front in
    on_err_from _
    (line_part _ _ _ c.loop-written.written _ c.args.bytes.now _ c.loop-written.invariant.grew front
    c.in_err-write_all.ensures.err)

pub loop-written-preserved : goal.loop-written-preserved
loop-written-preserved g c =
    let front = rw (take_rest c.args.bytes.now c.loop-written.written) at c.first_line-line.ensures.front in
    record {
      in_range = line_fits c.loop-written.written c.args.bytes.now _ c.loop-written.invariant.in_range front;
      grew = line_more _ _ _ c.loop-written.written _ c.args.bytes.now _ c.loop-written.invariant.grew front
          c.in_ok-write_all.ensures.ok;
      counted = c.in_ok-write_all.ensures.counted ∙ c.loop-written.invariant.counted;
    }
