use Rattle.css_laws.proofs.Raising.{numbers_raised}
use Rattle.css_laws.proofs.laws.numbers_dont_matter.Goals as goal

pub returns : goal.returns
returns c = numbers_raised
