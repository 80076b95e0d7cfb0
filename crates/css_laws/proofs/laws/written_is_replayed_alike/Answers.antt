use Rattle.css_laws.proofs.Alike.{replayed_alike}
use Rattle.css_laws.proofs.Written.{written_alike}
use Rattle.css_laws.proofs.laws.written_is_replayed_alike.Goals as goal

pub returns : goal.returns
returns c = written_alike replayed_alike
