use Rattle.std.proofs.Common.{◌≡◌, ◌-◌, ◌≤◌}
use Rattle.std.specs.Io.KnownBytes.{Appends}
use Rattle.css_survey.specs.Generated.{schedule_text}
use Rattle.css_app.proofs.written.write_lines.Given as goal

-- the lines that were given were written
abbrev pub invariant-lines : goal.invariant-lines
invariant-lines g l = record {
  companions : l.generator.companions ≡ l.companions;
  seed : l.generator.seed ≡ l.seed;
  lines : l.generator.lines ≡ l.lines;
  within : l.generator.given ≤ l.lines;
  grew : Appends (g.K.Sink.holds l.fn.sink) (g.K.Sink.holds l.sink)
      (schedule_text l.seed l.companions l.generator.given);
  counted : g.K.Sink.faults l.sink ≡ g.K.Sink.faults l.fn.sink;
}

abbrev pub decreases-lines : goal.decreases-lines
decreases-lines g l = l.lines - l.generator.given
