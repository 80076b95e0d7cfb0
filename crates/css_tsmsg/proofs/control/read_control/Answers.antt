use Rattle.std.proofs.Common.{◌≡◌, ◌∙◌, ap, subst}
use Rattle.std.specs.Prelude.{Option, IfSome}
use Rattle.css_num.specs.declared.control.Control.{Control}
use Rattle.css_tsmsg.specs.Controls.{IsInRange, control_of, control_text}
use Rattle.css_tsmsg.proofs.ReadBack.{control_reads}
use Rattle.css_tsmsg.proofs.control.read_control.Goals as goal

-- the text is as it is written
pub returns-in-Some-clause-value : goal.returns-in-Some-clause-value
returns-in-Some-clause-value c =
    let Told : Option Control → Type 0 = λ found. IfSome found (λ control. c.args.bytes.now ≡ control_text control) in
    let Ranged : Option Control → Type 0 = λ found. IfSome found IsInRange in
    let is = subst Told c.in-Some.is (c.in_ok-control.ensures.text) in
    let range = subst Ranged c.in-Some.is (c.in_ok-control.ensures.in_range) in
    ap control_of is ∙ control_reads c.in-Some.control range
