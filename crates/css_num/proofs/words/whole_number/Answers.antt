use Rattle.std.proofs.Common.{arith, rules}
use Rattle.css_num.proofs.Spellings.{SpellsBelow-answer}
use Rattle.css_num.proofs.words.whole_number.Goals as goal

pub returns-clause-spelling : goal.returns-clause-spelling
returns-clause-spelling c =
    SpellsBelow-answer c.args.bytes.now c.args.below c.filter.result (omega arith) (search rules)
