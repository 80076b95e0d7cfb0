use Rattle.css_tree.proofs.conversion.+available_to.Given as goal

-- a parent comes before its children
abbrev pub decreases-available_to : goal.decreases-available_to
decreases-available_to l = l.id
