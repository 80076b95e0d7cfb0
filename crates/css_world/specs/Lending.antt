-- The lane that a world's companions lend.
use Rattle.std.specs.Prelude.{ℕ, ◌-◌}
use Rattle.std.specs.Borrow.{Lends, MutBor, Fml}
use Rattle.std.specs.Vec.{with_item}
use Rattle.css_world.specs.contracts.lane.Lane.{the_row as lane_row}
use Rattle.css_world.specs.contracts.lanes.Lanes.{the_row}
use Rattle.css_world.specs.declared.lane.Lane.{Lane}
use Rattle.css_world.specs.declared.lanes.Lanes.{Lanes}
use Rattle.css_world.specs.contracts.watch.Watch.{the_row as watch_row}
use Rattle.css_world.specs.contracts.clocks.Clocks.{the_row as clocks_row}
use Rattle.css_world.specs.declared.watch.Watch.{Watch}
use Rattle.css_world.specs.declared.clocks.Clocks.{Clocks}

-- the lanes with another one of that number
abbrev pub with_lane : Lanes → ℕ → Lane → Lanes
with_lane lanes who lane = record lanes { list = with_item lanes.list (who - 1) lane }

-- they end with the last value behind the reference as the lane of that number
abbrev pub LendsLane : MutBor Lanes → ℕ → MutBor Lane → Fml
LendsLane lanes who lane = Lends the_row lane_row lanes lane (with_lane lanes.now who)

-- the clocks with another one of the companion of that number, and so they end
abbrev pub with_own : Clocks → ℕ → Watch → Clocks
with_own clocks who watch = record clocks { own = with_item clocks.own (who - 1) watch }

abbrev pub LendsWatch : MutBor Clocks → ℕ → MutBor Watch → Fml
LendsWatch clocks who watch = Lends clocks_row watch_row clocks watch (with_own clocks.now who)
