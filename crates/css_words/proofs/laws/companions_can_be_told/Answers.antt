use Rattle.css_words.proofs.Told.{companions_told}
use Rattle.css_words.proofs.laws.companions_can_be_told.Goals as goal

pub returns : goal.returns
returns c = companions_told
