use Rattle.std.proofs.Common.{◌∙◌, ◌++◌, ap, sym}
use Rattle.css_follow.proofs.Counts.{left-next, said-meter, ends-meter, says-meter, heard-meter}
use Rattle.css_follow.proofs.meter.MeterFollower.told.Goals as goal

pub invariant_of-self-2 : goal.invariant_of-self-2
invariant_of-self-2 c =
    left-next c.self.inside.count c.self.inside.left c.left_after-self-inside.result c.self.inside.notes.items
    c.take_note.new.notes.items c.args.report.now c.in_ok-text.text c.self.invariant c.in_ok-take_note.ensures.notes
    c.left_after-self-inside.ensures

pub returns-clause-heard : goal.returns-clause-heard
returns-clause-heard c =
    let said = said-meter c.self.inside.count c.self.inside.left c.self.inside.notes.items c.args.report.now
    c.in_ok-text.text c.self.invariant c.in_ok-text.ensures in
    let next = left-next c.self.inside.count c.self.inside.left c.left_after-self-inside.result
    c.self.inside.notes.items
    c.take_note.new.notes.items c.args.report.now c.in_ok-text.text c.self.invariant
    c.in_ok-take_note.ensures.notes c.left_after-self-inside.ensures in
    heard-meter c.args.self.now c.self.inside.notes.items c.take_note.new.notes.items c.self.inside.count
    c.self.inside.done _ c.args.report.now c.in_ok-text.text (sym c.self.view_is) c.if-self.false
    c.in_ok-take_note.ensures.notes said
    (ends-meter c.self.inside.count c.left_after-self-inside.result c.self.inside.notes.items
    c.take_note.new.notes.items
    c.args.report.now c.in_ok-text.text c.in_ok-take_note.ensures.notes next)

pub returns-clause-said : goal.returns-clause-said
returns-clause-said c =
    let said = said-meter c.self.inside.count c.self.inside.left c.self.inside.notes.items c.args.report.now
    c.in_ok-text.text c.self.invariant c.in_ok-text.ensures in
    c.in_ok-take_note.ensures.out
    ∙ ap (λ t. c.args.out.now ++ t) (says-meter c.args.self.now c.self.inside.notes.items c.self.inside.count
    c.self.inside.done c.args.report.now c.in_ok-text.text (sym c.self.view_is) c.if-self.false said)
