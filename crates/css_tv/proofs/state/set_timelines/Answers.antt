use Rattle.css_tv.proofs.States.{each_selector}
use Rattle.css_tv.proofs.state.set_timelines.Goals as goal

pub returns-clause-utf8 : goal.returns-clause-utf8
returns-clause-utf8 c = each_selector c.in_ok-property.field-0 c.in_ok-property.ensures.utf8
