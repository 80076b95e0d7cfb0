use Rattle.css_agree.proofs.naming.name_line.Goals as goal

pub returns-in-Ok-clause-names : goal.returns-in-Ok-clause-names
returns-in-Ok-clause-names c = λ named. rw (c.in-Answer.is, ← c.local.ensures.value) (c.in-Ok.ensures named)
