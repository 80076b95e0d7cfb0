use Rattle.std.proofs.Common.{rules}
use Rattle.css_num.proofs.Rounding.{IsCeiling-answer}
use Rattle.css_num.proofs.division.ceil_div.Goals as goal

pub returns-clause-meaning : goal.returns-clause-meaning
returns-clause-meaning c = IsCeiling-answer c.args.a c.args.b _ c.requires.positive (search rules)
