-- The clock keeps its rate and its parent, so the forest is one.
use Rattle.std.proofs.Common.{◌≡◌, rules}
use Rattle.std.specs.Prelude.{Ok}
use Rattle.css_tree.specs.Trees.{known}
use Rattle.css_tree.proofs.Forests.{known-get, IsForest-set}
use Rattle.css_tree.proofs.tree.Tree.set_available.Goals as goal

pub invariant_of-self : goal.invariant_of-self
invariant_of-self c =
    let clocks = c.self.inside.nodes.items in
    let node = c.in_ok-node.node in
    let known_here : known clocks c.args.id ≡ Ok node = search rules in
    let clock = c.self.invariant.each c.args.id node (known-get clocks c.args.id node known_here) in
    IsForest-set clocks c.args.id _ c.self.invariant (record { rate = clock.rate; linked = clock.linked })
