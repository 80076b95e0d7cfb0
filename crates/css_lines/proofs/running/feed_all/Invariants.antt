use Rattle.std.proofs.Common.{◌≡◌, ℕ, ◌+◌, List, ◌++◌, length, Option}
use Rattle.css_lines.specs.Progress.{IsPlaced, Progress}
use Rattle.css_lines.proofs.running.feed_all.Given as goal

abbrev pub invariant-lines : goal.invariant-lines
invariant-lines g l =
    let meaning = g.L.Lines.meaning in
    let stands = g.L.Lines.stands in
    let holds = g.K.Sink.holds in
    record {
      progress : (fed : List ℕ) × (l.bytes ≡ fed ++ l.rest)
          × ((start : Option (List ℕ)) (read : List ℕ)
          → Progress meaning stands start read l.fn.lines l.fn.pending (holds l.fn.sink)
          → Progress meaning stands start (read ++ fed) l.lines l.pending (holds l.sink));
      placed : IsPlaced stands l.lines l.pending;
      count : l.pending.count + length l.rest ≡ l.fn.pending.count + length l.bytes;
      counted : g.K.Sink.faults l.sink ≡ g.K.Sink.faults l.fn.sink;
    }

abbrev pub decreases-lines : goal.decreases-lines
decreases-lines g l = length l.rest
