use Rattle.css_follow.proofs.SheetsRead.{stands-more}
use Rattle.css_follow.proofs.reading.SheetLinesLines.line.Goals as goal

pub returns-in-Ok-clause-stands : goal.returns-in-Ok-clause-stands
returns-in-Ok-clause-stands c =
    stands-more _ c.add.result c.args.self.now.sheet c.add.new.sheet c.in-Ok.line c.args.text.now
    c.in-Ok.ensures c.add.ensures
