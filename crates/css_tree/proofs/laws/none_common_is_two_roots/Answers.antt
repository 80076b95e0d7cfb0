use Rattle.css_tree.proofs.Paths.{none-common_iff}
use Rattle.css_tree.proofs.laws.none_common_is_two_roots.Goals as goal

pub returns : goal.returns
returns c = none-common_iff
