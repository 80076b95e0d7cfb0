use Rattle.css_tree.proofs.outward.+steps_up.Given as goal

-- a parent comes before its children
abbrev pub decreases-steps_up : goal.decreases-steps_up
decreases-steps_up l = l.id
