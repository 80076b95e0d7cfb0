use Rattle.css_agree.proofs.Pairs.{faults-line, names-header, names-line, on_ok, prints-line}
use Rattle.css_agree.proofs.naming.Naming.name.Goals as goal

pub returns-in-None-clause-names : goal.returns-in-None-clause-names
returns-in-None-clause-names c = λ before stands is.
    names-header c.args.self.now c.args.text.now c.in-None.is before stands

pub returns-in-Some-clause-fault : goal.returns-in-Some-clause-fault
returns-in-Some-clause-fault c =
    faults-line c.args.self.now c.in-Some.agree c.args.number c.args.text.now c.name_text.result c.in-Some.is
    c.name_text.ensures.fault

pub returns-in-Some-clause-printed : goal.returns-in-Some-clause-printed
returns-in-Some-clause-printed c = on_ok _ _ c.name_text.result
    (prints-line c.args.self.now c.in-Some.agree c.args.number c.args.text.now c.args.out.now.items
    c.name_text.new.out.items c.in-Some.is)
    c.name_text.ensures.printed

pub returns-in-Some-clause-names : goal.returns-in-Some-clause-names
returns-in-Some-clause-names c = on_ok _ _ c.name_text.result
    (names-line c.args.self.now c.in-Some.agree c.name_text.new.names c.args.number c.args.text.now c.in-Some.is)
    c.name_text.ensures.names
