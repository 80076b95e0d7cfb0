-- What the steps give has each reading.
use Rattle.std.proofs.Common.{◌≡◌, rules}
use Rattle.css_tree.specs.Trees.{IsForest}
use Rattle.css_tree.specs.Conversions.{converted}
use Rattle.css_tree.proofs.Converted.{converted-answer}
use Rattle.css_tree.proofs.tree.Tree.convert.Goals as goal

pub returns-clause-meaning : goal.returns-clause-meaning
unfolding converted
returns-clause-meaning c =
    let forest : IsForest c.args.self.now = search rules in
    let value : c.steps_down.result ≡ converted c.args.self.now c.args.from c.args.to c.args.span = search rules in
    converted-answer c.args.self.now c.args.from c.args.to c.args.span c.steps_down.result forest value
