-- One clock more, with a rate in range, is a forest.
use Rattle.std.proofs.Common.{sym, subst, length}
use Rattle.css_tree.specs.declared.node.Node.{Node}
use Rattle.css_tree.specs.Trees.{Clocks, IsClock, IsLink}
use Rattle.css_tree.proofs.Forests.{IsForest-push}
use Rattle.css_tree.proofs.tree.Tree.push.Goals as goal

pub invariant_of-self-2 : goal.invariant_of-self-2
invariant_of-self-2 c =
    let clocks = c.self.inside.nodes.items in
    let clock : IsClock (length clocks) c.new.result =
    subst (λ (node : Node). IsClock (length clocks) node) (sym c.new.ensures.value)
    (record {
      rate = c.new.ensures.rate;
      linked =
          λ of h. subst (λ (seen : Clocks). IsLink (length seen) of) (sym c.self.view_is) (c.requires.clock of h);
    }) in
    rw c.in_ok-push.ensures.items (IsForest-push clocks c.new.result c.self.invariant clock)
