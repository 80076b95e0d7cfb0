use Rattle.css_tree.proofs.readings.+value_down.Given as goal

-- a parent comes before its children
abbrev pub decreases-value_down : goal.decreases-value_down
decreases-value_down l = l.id
