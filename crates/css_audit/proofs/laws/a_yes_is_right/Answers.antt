use Rattle.css_audit.proofs.Promise.{right_record}
use Rattle.css_audit.proofs.laws.a_yes_is_right.Goals as goal

pub returns : goal.returns
returns c = right_record
