use Rattle.std.proofs.Common.{◌∙◌, sym, ap, subst}
use Rattle.std.proofs.lemmas.Result.{IfOk-weaker}
use Rattle.css_tsmsg.specs.Controls.{IsInRange, control_text}
use Rattle.css_tsmsg.proofs.ControlTexts.{available_text, unavailable_text}
use Rattle.css_tsmsg.proofs.written.words_of.Goals as goal

pub returns-in-Available : goal.returns-in-Available
returns-in-Available c =
    let range = subst IsInRange c.in-Available.is c.requires in
    IfOk-weaker c.format.result _ _ (λ words is. is
    ∙ sym (available_text c.in-Available.content c.in-Available.wall c.in-Available.speed range)
    ∙ ap control_text (sym c.in-Available.is)) c.format.ensures.ok

pub returns-in-Unavailable : goal.returns-in-Unavailable
returns-in-Unavailable c =
    IfOk-weaker c.from_str.result _ _ (λ words is. is ∙ unavailable_text ∙ ap control_text (sym c.in-Unavailable.is))
    c.from_str.ensures.ok
