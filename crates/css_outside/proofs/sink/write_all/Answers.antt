use Rattle.std.proofs.Common.{◌∙◌, arith}
use Rattle.std.proofs.lemmas.List.{take_rest, length-drop}
use Rattle.css_outside.proofs.Known.{appends_take, stops_at, on_err_from}
use Rattle.css_outside.proofs.sink.write_all.Goals as goal

pub returns-in_err-count-clause-err : goal.returns-in_err-count-clause-err
returns-in_err-count-clause-err g c = on_err_from _
    (stops_at _ _ _ c.loop-written.written c.args.bytes.now c.loop-written.invariant.grew c.in_err-count.ensures.bytes)

pub loop-written-preserved : goal.loop-written-preserved
loop-written-preserved g c =
    let step = rw (take_rest c.args.bytes.now c.loop-written.written) at c.in_ok-count.ensures.bytes in
    let fits =
    rw (take_rest c.args.bytes.now c.loop-written.written, length-drop c.loop-written.written c.args.bytes.now) at
    c.in_ok-count.ensures.bound in
    record {
      in_range = omega (arith, fits);
      grew = appends_take _ _ _ c.loop-written.written c.in_ok-count.count c.args.bytes.now
          c.loop-written.invariant.grew step;
      counted = c.in_ok-count.ensures.counted ∙ c.loop-written.invariant.counted;
    }
