use Rattle.css_tv.proofs.Keeping.{same_published, programme_present, programme_controls}
use Rattle.css_tv.proofs.laws.programmes_are_not_told.Goals as goal

pub returns-clause-state : goal.returns-clause-state
returns-clause-state c = λ a id p q shown is. same_published a p q (programme_present id p q is shown)

pub returns-clause-controls : goal.returns-clause-controls
returns-clause-controls c = λ stem selector id p q shown is. programme_controls stem selector id p q is shown
