use Rattle.css_laws.proofs.Replaying.{generated_replayed}
use Rattle.css_laws.proofs.laws.generated_schedules_are_replayed.Goals as goal

pub returns : goal.returns
returns c = generated_replayed
