use Rattle.css_companion_c.proofs.exchange.ask.Goals as goal

pub returns-clause-stands : goal.returns-clause-stands
returns-clause-stands c = λ _ history peer known. c.ask.ensures.stands _ history peer known
