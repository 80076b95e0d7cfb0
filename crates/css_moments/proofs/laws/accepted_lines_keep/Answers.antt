use Rattle.css_moments.proofs.Pairs.{accepted_keeps, any_two_keep}
use Rattle.css_moments.proofs.laws.accepted_lines_keep.Goals as goal

pub returns-clause-each : goal.returns-clause-each
returns-clause-each c = accepted_keeps

pub returns-clause-any_two : goal.returns-clause-any_two
returns-clause-any_two c = any_two_keep
