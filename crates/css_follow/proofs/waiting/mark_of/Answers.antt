use Rattle.std.proofs.Common.{◌≡◌, ◌∙◌, ◌+◌, ap, sym, arith, drop, get_or}
use Rattle.std.proofs.lemmas.List.{at_drop_more, at_drop_all}
use Rattle.std.proofs.lemmas.Int.{to_z-of_z}
use Rattle.css_follow.specs.Standing.{mark_from, later, mark_at}
use Rattle.css_follow.proofs.waiting.mark_of.Goals as goal

pub loop-note-preserved : goal.loop-note-preserved
loop-note-preserved c =
    let tick = c.args.tick in
    let i = c.loop-note.note-index in
    let notes = c.args.notes.now in
    let item = c.note-item.result in
    let at = simp (to_z-of_z, c.ranges.tick) at c.at.ensures in
    let invariant = simp (to_z-of_z, c.ranges.tick) at c.loop-note.invariant in
    let step : mark_from c.loop-note.mark tick (drop i notes)
    ≡ mark_from (later c.loop-note.mark (mark_at tick (get_or notes i item).report)) tick (drop (i + 1) notes)
    = at_drop_more (mark_from c.loop-note.mark tick) notes i item (omega arith) in
    simp (to_z-of_z, c.ranges.tick)
    (ap (λ m. mark_from m tick (drop (i + 1) notes))
    (c.later-mark.ensures ∙ ap (later c.loop-note.mark) (at ∙ ap (λ n. mark_at tick n.report) c.note-item.is))
    ∙ sym step ∙ invariant)

pub returns : goal.returns
returns c =
    let inv = simp (to_z-of_z, c.ranges.tick) at c.loop-note.invariant in
    sym (at_drop_all (mark_from c.loop-note.mark c.args.tick) c.args.notes.now c.loop-note.note-index (omega arith))
    ∙ inv
