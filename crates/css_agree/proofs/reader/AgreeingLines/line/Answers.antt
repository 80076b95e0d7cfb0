use Rattle.css_agree.proofs.Reading.{stands-header, stands-line}
use Rattle.css_agree.proofs.reader.AgreeingLines.line.Goals as goal

pub returns-in_ok-open-in-None-clause-stands : goal.returns-in_ok-open-in-None-clause-stands
returns-in_ok-open-in-None-clause-stands c =
    stands-header c.args.self.now c.in_ok-open-in-None.field-0 c.args.number c.args.text.now c.in-None.is
    c.in_ok-open-in-None.ensures

pub returns-in_ok-self-in-Some-clause-stands : goal.returns-in_ok-self-in-Some-clause-stands
returns-in_ok-self-in-Some-clause-stands c =
    stands-line c.args.self.now c.in-Some.agree c.take_line.new.agree c.args.number c.in_ok-self-in-Some.field-0
    c.args.text.now c.in-Some.is c.in_ok-self-in-Some.ensures.local c.in_ok-self-in-Some.ensures.keeps
