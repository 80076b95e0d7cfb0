use Rattle.css_companion_c.proofs.exchange.refuse.Goals as goal

pub returns-in-Ok-clause-stands : goal.returns-in-Ok-clause-stands
returns-in-Ok-clause-stands c = λ _ history peer known. c.in-Ok.ensures.stands _ history peer known
