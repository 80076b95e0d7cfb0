use Rattle.std.proofs.Common.{arith, sym, ◌∙◌}
use Rattle.css_schedule.proofs.Quick.{spells_last, spells_first}
use Rattle.css_schedule.proofs.words.quick_number.Goals as goal

pub returns-then-count-bytes : goal.returns-then-count-bytes
returns-then-count-bytes c =
    let digits = c.leading_digits-number in
    let leads = sym c.leads_with_zero.ensures ∙ c.if-leads_with_zero.false in
    rw c.in-Some.is
    (spells_last c.in-Some.bytes.now digits.result.1 digits.result.0 (omega arith) (omega arith) leads
    digits.ensures.value)

pub returns : goal.returns
returns c =
    let digits = c.leading_digits-number in
    let leads = sym c.leads_with_zero.ensures ∙ c.if-leads_with_zero.false in
    rw c.in-Some.is
    (spells_first c.in-Some.bytes.now digits.result.1 digits.result.0 (omega arith) (omega arith) (omega arith) leads
    digits.ensures.value)
