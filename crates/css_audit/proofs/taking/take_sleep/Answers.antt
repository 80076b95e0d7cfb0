use Rattle.std.proofs.Common.{sym, ap, ◌∙◌}
use Rattle.css_audit.specs.declared.place.Place.{Place}
use Rattle.css_audit.proofs.Fresh.{sleeps-fresh}
use Rattle.css_audit.proofs.taking.take_sleep.Goals as goal

pub returns-in-None-clause-tells : goal.returns-in-None-clause-tells
returns-in-None-clause-tells c = λ older keeps.
    sleeps-fresh c.args.companion.now older (sym (ap (λ (p : Place). p.last) keeps.stands) ∙ c.in-None.is) keeps.told
