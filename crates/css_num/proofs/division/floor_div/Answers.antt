use Rattle.std.proofs.Common.{rules}
use Rattle.css_num.proofs.Rounding.{IsFloor-answer}
use Rattle.css_num.proofs.division.floor_div.Goals as goal

pub returns-clause-meaning : goal.returns-clause-meaning
returns-clause-meaning c = IsFloor-answer c.args.a c.args.b _ c.requires.positive (search rules)
