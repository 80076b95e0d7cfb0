use Rattle.css_audit.proofs.Reading.{answers-line, stands-line}
use Rattle.css_audit.proofs.reader.AuditingLines.line.Goals as goal

pub returns-in-Some-clause-answers : goal.returns-in-Some-clause-answers
returns-in-Some-clause-answers c = λ before stands number.
    answers-line c.args.self.now c.in-Some.audit c.args.text.now c.args._out.now.items c.take_line.result c.in-Some.is
    c.take_line.ensures.meant before stands

pub returns-in-Some-clause-stands : goal.returns-in-Some-clause-stands
returns-in-Some-clause-stands c =
    stands-line _ c.args.self.now c.in-Some.audit c.take_line.new.audit c.args.text.now c.take_line.result c.in-Some.is
    c.take_line.ensures.keeps c.take_line.ensures.read c.take_line.ensures.stands
