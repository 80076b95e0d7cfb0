use Rattle.css_agree.proofs.reader.carry_out.Goals as goal

pub returns-in-Answer-clause-answers : goal.returns-in-Answer-clause-answers
returns-in-Answer-clause-answers c = rw c.in-Answer.is c.add.ensures.answers

pub returns-in-Answer-clause-stands : goal.returns-in-Answer-clause-stands
returns-in-Answer-clause-stands c = rw c.in-Answer.is c.add.ensures.stands
