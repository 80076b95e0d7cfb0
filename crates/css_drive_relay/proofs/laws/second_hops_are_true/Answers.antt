use Rattle.css_drive_relay.proofs.SecondHop as hops
use Rattle.css_drive_relay.proofs.laws.second_hops_are_true.Goals as goal

pub returns : goal.returns
returns c = hops.second_hops_are_true
