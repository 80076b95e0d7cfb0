-- The clock keeps its parent, so the forest is one.
use Rattle.std.proofs.Common.{◌≡◌, rules, arith}
use Rattle.std.specs.Prelude.{Ok, Some}
use Rattle.css_clock.specs.Ticks.{IsSpeed}
use Rattle.css_tree.specs.Trees.{known}
use mir.Syntax.{w32}
use mir.Val.{to_z, of_z}
use Rattle.css_tree.proofs.Forests.{known-get, same-link, IsForest-set}
use Rattle.css_tree.proofs.tree.Tree.set.Goals as goal

pub invariant_of-self : goal.invariant_of-self
invariant_of-self c =
    let clocks = c.self.inside.nodes.items in
    let node = c.in_ok-node.node in
    let known_here : known clocks c.args.id ≡ Ok node = search rules in
    let linked : node.link ≡ Some c.in_ok-link.link = grind arith in
    let clock = c.self.invariant.each c.args.id node (known-get clocks c.args.id node known_here) in
    let before = (clock.linked c.in_ok-link.link linked).before in
    let speed : IsSpeed (to_z w32 (of_z w32 c.args.speed)) = search rules in
    IsForest-set clocks c.args.id _ c.self.invariant (record {
      rate = clock.rate;
      linked = λ of h. same-link c.args.id _ of (record { before = before; speed = speed }) h;
    })
