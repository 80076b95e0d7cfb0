use Rattle.css_laws.proofs.Alike.{replayed_alike}
use Rattle.css_laws.proofs.laws.migrated_schedules_are_replayed_alike.Goals as goal

pub returns : goal.returns
returns c = replayed_alike
