use Rattle.std.proofs.Common.{refl, Some}
use Rattle.css_tsmsg.specs.Setups.{setup_text}
use Rattle.css_world.proofs.lane.Lane.greet.Goals as goal

pub attend-requires-clause-taken : goal.attend-requires-clause-taken
attend-requires-clause-taken c = (Some (setup_text c.args.self.now.companion.setup), refl)
