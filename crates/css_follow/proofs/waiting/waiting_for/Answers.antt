use Rattle.std.proofs.Common.{◌≡◌, ◌∙◌, ◌++◌, ◌∷◌, [], ap, arith, get_or, length, map, rules, sym, take}
use Rattle.css_follow.specs.Standing.{mark_after, waiting_after}
use Rattle.css_follow.proofs.Passes.{map_more}
use Rattle.css_follow.proofs.waiting.waiting_for.Goals as goal

-- one more cue
pub loop-cue-preserved : goal.loop-cue-preserved
loop-cue-preserved c =
    let after = waiting_after c.args.notes.now in
    let i = c.loop-cue.cue-index in
    let item = c.cue-item.result in
    let same = c.as_slice-cue-items.ensures in
    let before = map after (take i c.args.cues.now) in
    let marked : c.mark_of.result ≡ mark_after item.tick c.args.notes.now = search rules in
    let more = map_more after c.args.cues.now i item (omega (arith, ap length same)) in
    c.in_ok-push_waiting.ensures
    ∙ ap (λ l. l ++ record { cue = item; mark = c.mark_of.result } ∷ []) c.loop-cue.invariant
    ∙ ap (λ m. before ++ record { cue = item; mark = m } ∷ []) marked
    ∙ ap (λ x. before ++ after x ∷ []) (c.cue-item.is ∙ ap (λ cues. get_or cues i item) same) ∙ sym more
