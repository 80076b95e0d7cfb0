use Rattle.css_drive_relay.proofs.SecondHop as hops
use Rattle.css_drive_relay.proofs.laws.given_is_true.Goals as goal

pub returns : goal.returns
returns c = hops.given_is_true
