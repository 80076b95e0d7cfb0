-- Both clocks were read, and what they showed is kept.
use Rattle.css_devices.proofs.Told.{told_of}
use Rattle.css_devices.proofs.tally.Tally.now.Goals as goal

pub returns-in-Some-clause-told : goal.returns-in-Some-clause-told
returns-in-Some-clause-told g c =
    told_of c.args.self.now c.shows.new.self c.in-Some.clocks c.shows.result c.shows.ensures.told c.shows.ensures.kept
