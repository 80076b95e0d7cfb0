-- A clock goes by the product of its parent's speeds and its own.
use Rattle.css_clock.proofs.Goes.{child_goes}
use Rattle.css_clock.proofs.correlated.CorrelatedTick.goes.Goals as goal

pub returns : goal.returns
returns g c =
    let clock = c.args.self.now in
    child_goes clock.rate (g.P.Tick.rate_of clock.parent)
    (record { speed = clock.speed; parent_ticks = clock.parent_ticks; child_ticks = clock.child_ticks })
    (g.P.Tick.speeds clock.parent) (g.P.Tick.value_at clock.parent) c.goes.ensures
