use Rattle.css_agree.specs.Naming.{named_in}
use Rattle.css_agree.proofs.Pairs.{on_ok}
use Rattle.css_agree.proofs.naming.name_text.Goals as goal

pub returns-in-Ok-clause-names : goal.returns-in-Ok-clause-names
returns-in-Ok-clause-names c = on_ok _ _ c.name_line.result
    (λ goes older keeps. rw c.in-Ok.ensures.value (goes (named_in c.args.agree.now.local older) keeps))
    c.name_line.ensures.names
