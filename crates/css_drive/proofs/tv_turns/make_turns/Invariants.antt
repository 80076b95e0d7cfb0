use Rattle.std.proofs.Common.{◌≡◌, ◌-◌, Ok}
use Rattle.css_outside.specs.Limits.{most_turns}
use Rattle.css_drive.specs.TvProgress.{IsRanged}
use Rattle.css_drive.specs.TvStanding.{From, Comes, Leads, at_end}
use Rattle.css_drive.proofs.tv_turns.make_turns.Given as goal

abbrev pub invariant-turns : goal.invariant-turns
invariant-turns g l = record {
  goes : (from : From) → from.run.script ≡ l.script
      → Leads g.O.Outside.told g.O.Outside.counts from (Comes at_end) (Comes at_end) l.fn.outside l.fn.air l.outside
      l.air (Ok l.air.turns);
  ranged : IsRanged l.air.turns;
}

abbrev pub decreases-turns : goal.decreases-turns
decreases-turns g l = most_turns l.air.turns.limit - l.air.turns.made
