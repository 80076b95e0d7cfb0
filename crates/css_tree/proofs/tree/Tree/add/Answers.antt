-- The parent is known, so it comes before.
use Rattle.std.proofs.Common.{◌≡◌, ◌<◌, length, rules, subst}
use Rattle.std.specs.Prelude.{Ok}
use Rattle.css_clock.specs.Ticks.{IsSpeed}
use Rattle.css_tree.specs.Trees.{known, Clocks}
use mir.Syntax.{w32}
use mir.Val.{to_z, of_z}
use Rattle.css_tree.proofs.Forests.{known-within, same-link}
use Rattle.css_tree.proofs.tree.Tree.add.Goals as goal

pub push-requires-clause-clock : goal.push-requires-clause-clock
push-requires-clause-clock c =
    let known_here : known c.self.inside.nodes.items c.args.parent ≡ Ok c.in_ok-known.field-0 = search rules in
    let before : c.args.parent < length c.args.self.now =
    subst (λ (clocks : Clocks). c.args.parent < length clocks) c.self.view_is
    (known-within c.self.inside.nodes.items c.args.parent c.in_ok-known.field-0 known_here) in
    let speed : IsSpeed (to_z w32 (of_z w32 c.args.speed)) = search rules in
    λ of h. same-link (length c.args.self.now) _ of (record { before = before; speed = speed }) h
