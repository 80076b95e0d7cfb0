use Rattle.css_tree.proofs.conversion.+steps_down.Given as goal

-- a parent comes before its children
abbrev pub decreases-steps_down : goal.decreases-steps_down
decreases-steps_down l = l.id
