use Rattle.std.proofs.Common.{◌∙◌, codes, decimal}
use Rattle.css_survey.proofs.Surveying.{nine_pieces}
use Rattle.css_survey.proofs.summary.Summary.line.Goals as goal

pub returns : goal.returns
returns c =
    c.in_ok-line.ensures.ok
    ∙ nine_pieces (codes "lines ") (decimal c.args.lines) (codes " prints ") (decimal c.args.self.now.prints)
    (codes " intervals ") (decimal c.args.self.now.intervals) (codes " widest ") (decimal c.args.self.now.widest)
    (codes "\n")
