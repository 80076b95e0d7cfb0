use Rattle.std.proofs.Common.{refl}
use Rattle.css_drive_relay.proofs.plan.Plan.new.Goals as goal

pub returns : goal.returns
returns c = refl
