use Rattle.css_words.proofs.Told.{schedules_told}
use Rattle.css_words.proofs.laws.schedules_can_be_told.Goals as goal

pub returns : goal.returns
returns c = schedules_told
