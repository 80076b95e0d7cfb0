use Rattle.std.proofs.Common.{◌≤◌, arith, refl, ◌∙◌, [], ◌++◌, take, length}
use Rattle.std.proofs.lemmas.List.{length-take}
use Rattle.std.proofs.lemmas.Result.{MatchResult-weaker, err_from_is_err_and}
use Rattle.css_outside.proofs.Known.{consumes_none, consumes_more}
use Rattle.css_lines.proofs.Steps.{begins, sound}
use Rattle.css_lines.proofs.Endings.{consumes_nothing, stops_in_piece, stops_at_end}
use Rattle.css_lines.proofs.Endings.{finishes, no_read_fault, no_read_fault_at_end}
use Rattle.css_lines.proofs.running.drive_pieces.Goals as goal

pub pieces-init : goal.pieces-init
pieces-init g c = record {
  progress = ([], begins _ _ _ _ _ c.requires c.new.ensures.items refl refl, consumes_none _);
  sink_counted = refl;
  source_counted = refl;
}

pub pieces-preserved : goal.pieces-preserved
pieces-preserved g c =
    let before = c.pieces.invariant.progress in
    let bytes = take c.in_ok-count.count c.read.new.into in
    record {
      progress = (
        before.0 ++ bytes,
        c.in_ok-feed_all.ensures.progress _ before.0 before.1,
        consumes_more _ _ _ before.0 bytes before.2 c.in_ok-count.ensures.bytes.0,
      );
      sink_counted = c.in_ok-feed_all.ensures.counted ∙ c.pieces.invariant.sink_counted;
      source_counted = c.in_ok-count.ensures.counted ∙ c.pieces.invariant.source_counted;
    }

pub returns-then-count-eq0-clause-done : goal.returns-then-count-eq0-clause-done
returns-then-count-eq0-clause-done g c =
    let before = c.pieces.invariant.progress in
    let took =
    consumes_nothing _ _ _ before.0 c.read.new.into _ before.2 c.in_ok-count.ensures.bytes.0 c.if-count-eq0.true in
    let at_end = c.in_ok-count.ensures.bytes.1 c.if-count-eq0.true (omega arith) in
    MatchResult-weaker c.end.result (c.end.ensures.all _ before.0 before.1)
    (λ x f. finishes _ _ _ before.0 _ _ _ _ f at_end took) (λ stop s. tt)

pub returns-then-count-eq0-clause-stopped : goal.returns-then-count-eq0-clause-stopped
returns-then-count-eq0-clause-stopped g c =
    let before = c.pieces.invariant.progress in
    let took =
    consumes_nothing _ _ _ before.0 c.read.new.into _ before.2 c.in_ok-count.ensures.bytes.0 c.if-count-eq0.true in
    let at_end = c.in_ok-count.ensures.bytes.1 c.if-count-eq0.true (omega arith) in
    MatchResult-weaker c.end.result (c.end.ensures.all _ before.0 before.1) (λ x f. tt)
    (λ stop s. stops_at_end _ _ before.0 _ _ _ stop s (sound _ _ _ _ _ _ _ before.1) at_end took)

pub returns-then-count-eq0-clause-counted_reads : goal.returns-then-count-eq0-clause-counted_reads
returns-then-count-eq0-clause-counted_reads g c =
    let before = c.pieces.invariant.progress in
    let same = c.in_ok-count.ensures.counted ∙ c.pieces.invariant.source_counted in
    MatchResult-weaker c.end.result (c.end.ensures.all _ before.0 before.1) (λ x f. same)
    (λ stop s. no_read_fault_at_end _ before.0 s.printed _ _ stop s.ends same)

pub returns-in_err-feed_all-clause-stopped : goal.returns-in_err-feed_all-clause-stopped
returns-in_err-feed_all-clause-stopped g c =
    let exit = err_from_is_err_and c.from_residual-in_err-feed_all.result c.from_residual-in_err-feed_all.ensures.1 in
    let before = c.pieces.invariant.progress in
    let bytes = take c.in_ok-count.count c.read.new.into in
    let short : length bytes ≤ 4096 =
    omega (arith, length-take c.in_ok-count.count c.read.new.into, c.in_ok-count.ensures.bound) in
    let took = consumes_more _ _ _ before.0 bytes before.2 c.in_ok-count.ensures.bytes.0 in
    rw (exit.1, exit.2) (stops_in_piece _ _ before.0 bytes _ _ _ _
    (c.in_err-feed_all.ensures.progress _ before.0 before.1) (sound _ _ _ _ _ _ _ before.1) short took)

pub returns-in_err-feed_all-clause-counted_reads : goal.returns-in_err-feed_all-clause-counted_reads
returns-in_err-feed_all-clause-counted_reads g c =
    let exit = err_from_is_err_and c.from_residual-in_err-feed_all.result c.from_residual-in_err-feed_all.ensures.1 in
    let before = c.pieces.invariant.progress in
    let bytes = take c.in_ok-count.count c.read.new.into in
    let stopped = c.in_err-feed_all.ensures.progress _ before.0 before.1 in
    rw (exit.1, exit.2) (no_read_fault _ (before.0 ++ bytes) stopped.printed _ _ _ stopped.ends
    (c.in_ok-count.ensures.counted ∙ c.pieces.invariant.source_counted))
