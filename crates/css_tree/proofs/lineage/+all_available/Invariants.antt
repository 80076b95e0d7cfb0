use Rattle.css_tree.proofs.lineage.+all_available.Given as goal

-- a parent comes before its children
abbrev pub decreases-all_available : goal.decreases-all_available
decreases-all_available l = l.id
