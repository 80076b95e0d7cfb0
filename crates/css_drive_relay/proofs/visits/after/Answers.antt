use Rattle.std.proofs.Common.{◌∙◌, sym}
use Rattle.css_drive_relay.proofs.Staying as staying
use Rattle.css_drive_relay.proofs.visits.after.Goals as goal

pub returns-then-is_fault-clause-follows : goal.returns-then-is_fault-clause-follows
returns-then-is_fault-clause-follows g c start x = staying.breaks x (c.is_fault.ensures.yes c.if-is_fault.true)

pub returns-in-Err-clause-follows : goal.returns-in-Err-clause-follows
returns-in-Err-clause-follows g c start x =
    staying.unhung x (c.is_fault.ensures.no c.if-is_fault.false) c.in-Err.ensures.hangs

pub returns-then-is_followed-clause-follows : goal.returns-then-is_followed-clause-follows
returns-then-is_followed-clause-follows g c start x =
    staying.follows x (c.is_fault.ensures.no c.if-is_fault.false) c.in_default.ensures.hangs
    (sym c.is_followed.ensures ∙ c.if-is_followed.true) _ c.next.ensures

pub returns-clause-follows : goal.returns-clause-follows
returns-clause-follows g c start x =
    staying.ends x (c.is_fault.ensures.no c.if-is_fault.false) c.in_default.ensures.hangs
    (sym c.is_followed.ensures ∙ c.if-is_followed.false)
