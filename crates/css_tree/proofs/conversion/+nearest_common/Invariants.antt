use Rattle.std.proofs.Common.{◌+◌}
use Rattle.css_tree.proofs.conversion.+nearest_common.Given as goal

-- a parent comes before its children
abbrev pub decreases-nearest_common : goal.decreases-nearest_common
decreases-nearest_common l = l.from + l.to
