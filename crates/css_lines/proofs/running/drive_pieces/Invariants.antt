use Rattle.std.proofs.Common.{◌≡◌, ℕ, ◌-◌, ◌^◌, List}
use Rattle.std.specs.Io.KnownBytes.{Consumes}
use Rattle.css_lines.specs.Progress.{Progress}
use Rattle.css_lines.proofs.running.drive_pieces.Given as goal

abbrev pub invariant-pieces : goal.invariant-pieces
invariant-pieces g l = record {
  progress : (read : List ℕ) × Progress g.L.Lines.meaning g.L.Lines.stands
      (g.K.Sink.holds l.fn.sink) read l.lines l.pending (g.K.Sink.holds l.sink)
      × Consumes (g.S.Source.left l.fn.source) (g.S.Source.left l.source) read;
  sink_counted : g.K.Sink.faults l.sink ≡ g.K.Sink.faults l.fn.sink;
  source_counted : g.S.Source.faults l.source ≡ g.S.Source.faults l.fn.source;
}

abbrev pub decreases-pieces : goal.decreases-pieces
decreases-pieces g l = 2 ^ 40 - l.pending.count
