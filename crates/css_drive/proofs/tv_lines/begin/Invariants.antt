use Rattle.std.proofs.Common.{◌≡◌, ◌-◌, [], Ok, length}
use Rattle.css_drive.specs.TvProgress.{Turned, begun, since}
use Rattle.css_drive.specs.TvStanding.{From, Leads, Settles, Comes, at_end}
use Rattle.css_drive.proofs.tv_lines.begin.Given as goal

abbrev pub invariant-lines : goal.invariant-lines
invariant-lines g l = record {
  goes : (from : From) → from.run.script ≡ l.script
      → Leads g.O.Outside.told g.O.Outside.counts from (Comes at_end) (Settles (Turned l.reading) []) l.fn.outside
      l.fn.air l.outside l.air (Ok l.air.lines);
  turns : l.air.turns ≡ begun l.reading l.fn.air.turns;
  since : since l.air.turns ≡ l.from;
}

abbrev pub decreases-lines : goal.decreases-lines
decreases-lines g l = length l.script - l.air.lines
