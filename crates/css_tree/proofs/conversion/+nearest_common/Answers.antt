-- The later of two clocks isn't above the other, so its parent stands for it.
use Rattle.std.proofs.Common.{◌≡◌, ◌<◌, ◌∙◌, sym, arith, rules, Some, None}
use Rattle.css_tree.specs.Trees.{parent_of}
use Rattle.css_tree.proofs.Forests.{parent-before}
use Rattle.css_tree.proofs.Paths.{common-from_root, common-from_up, common-to_root, common-to_up}
use Rattle.css_tree.proofs.conversion.+nearest_common.Goals as goal

pub returns-in_err-parent : goal.returns-in_err-parent
returns-in_err-parent t c =
    let less : c.args.to < c.args.from = omega arith in
    let e : parent_of c.args.nodes.now c.args.from ≡ None = search rules in
    c.from_residual.ensures ∙ sym (common-from_root c.args.nodes.now c.args.from c.args.to c.requires less e)

pub nearest_common-requires : goal.nearest_common-requires
nearest_common-requires t c =
    let e : parent_of c.args.nodes.now c.args.from ≡ Some c.in_ok-parent.field-0 = search rules in
    let before = parent-before c.args.nodes.now c.args.from c.in_ok-parent.field-0 c.requires e in
    (omega (arith, before, c.decreases), c.requires)

pub returns-in_err-parent-2 : goal.returns-in_err-parent-2
returns-in_err-parent-2 t c =
    let less : c.args.from < c.args.to = omega arith in
    let e : parent_of c.args.nodes.now c.args.to ≡ None = search rules in
    c.from_residual-in_err-parent-2.ensures ∙ sym
    (common-to_root c.args.nodes.now c.args.from c.args.to c.requires less e)

pub nearest_common-requires-else-from-to-2 : goal.nearest_common-requires-else-from-to-2
nearest_common-requires-else-from-to-2 t c =
    let e : parent_of c.args.nodes.now c.args.to ≡ Some c.in_ok-parent-2.field-0 = search rules in
    let before = parent-before c.args.nodes.now c.args.to c.in_ok-parent-2.field-0 c.requires e in
    (omega (arith, before, c.decreases), c.requires)

pub returns-in_ok-parent : goal.returns-in_ok-parent
returns-in_ok-parent t c =
    let less : c.args.to < c.args.from = omega arith in
    let e : parent_of c.args.nodes.now c.args.from ≡ Some c.in_ok-parent.field-0 = search rules in
    c.nearest_common.ensures ∙ sym
    (common-from_up c.args.nodes.now c.args.from c.args.to c.in_ok-parent.field-0 c.requires less e)

pub returns-in_ok-parent-2 : goal.returns-in_ok-parent-2
returns-in_ok-parent-2 t c =
    let less : c.args.from < c.args.to = omega arith in
    let e : parent_of c.args.nodes.now c.args.to ≡ Some c.in_ok-parent-2.field-0 = search rules in
    c.nearest_common-else-from-to-2.ensures ∙ sym
    (common-to_up c.args.nodes.now c.args.from c.args.to c.in_ok-parent-2.field-0 c.requires less e)
