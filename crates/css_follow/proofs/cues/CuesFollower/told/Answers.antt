use Rattle.std.proofs.Common.{◌∙◌, ◌++◌, ap, sym, refl}
use Rattle.std.specs.List.{flat_map, list_all}
use Rattle.css_follow.specs.Announcing.{Announcing}
use Rattle.css_follow.specs.Standing.{news_at, is_done}
use Rattle.css_follow.proofs.Marks.{AreMarked-next, said-cues, ends-cues, says-cues, heard-cues, keeps-cues}
use Rattle.css_follow.proofs.cues.CuesFollower.told.Goals as goal

pub invariant_of-self-2 : goal.invariant_of-self-2
invariant_of-self-2 c =
    AreMarked-next c.self.inside.notes.items _ c.self.inside.list.items _ c.args.report.now c.in_ok-text.text
    c.self.invariant c.in_ok-take_note.ensures.notes c.mark_all.ensures

pub returns-clause-heard : goal.returns-clause-heard
returns-clause-heard c =
    let said = said-cues c.self.inside.notes.items _ c.self.inside.list.items _ c.args.report.now c.in_ok-text.text
    c.self.invariant c.in_ok-take_note.ensures.notes c.mark_all.ensures
    (c.in_ok-text.ensures ∙ ap (flat_map (news_at c.args.report.now)) c.deref.ensures.value) in
    let ends = ends-cues c.self.inside.notes.items _ c.self.inside.list.items _ c.args.report.now c.in_ok-text.text
    c.self.invariant c.in_ok-take_note.ensures.notes c.mark_all.ensures in
    heard-cues c.args.self.now c.self.inside.notes.items c.take_note.new.notes.items c.self.inside.list.items
    c.self.inside.done _ c.args.report.now c.in_ok-text.text (sym c.self.view_is) c.if-self.false
    c.in_ok-take_note.ensures.notes said
    (c.all_passed-self-inside.ensures ∙ ap (list_all is_done) c.deref-2.ensures.value ∙ ends)

pub returns-clause-keeps : goal.returns-clause-keeps
returns-clause-keeps c =
    keeps-cues c.args.self.now c.self.inside.list.items _ _ c.args.report.now
    (ap {A = Announcing} (λ a. a.cues) (sym c.self.view_is)) refl c.mark_all.ensures

pub returns-clause-said : goal.returns-clause-said
returns-clause-said c =
    let said = said-cues c.self.inside.notes.items _ c.self.inside.list.items _ c.args.report.now c.in_ok-text.text
    c.self.invariant c.in_ok-take_note.ensures.notes c.mark_all.ensures
    (c.in_ok-text.ensures ∙ ap (flat_map (news_at c.args.report.now)) c.deref.ensures.value) in
    c.in_ok-take_note.ensures.out
    ∙ ap (λ t. c.args.out.now ++ t) (says-cues c.args.self.now c.self.inside.notes.items c.self.inside.list.items
    c.self.inside.done c.args.report.now c.in_ok-text.text (sym c.self.view_is) c.if-self.false said)
