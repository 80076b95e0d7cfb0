use Rattle.css_moments.proofs.Pairs.{accepts_exactly}
use Rattle.css_moments.proofs.laws.accepts_exactly.Goals as goal

pub returns : goal.returns
returns c = accepts_exactly
