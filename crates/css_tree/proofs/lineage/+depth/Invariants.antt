use Rattle.css_tree.proofs.lineage.+depth.Given as goal

-- a parent comes before its children
abbrev pub decreases-depth : goal.decreases-depth
decreases-depth l = l.id
