use Rattle.std.proofs.Common.{◌∙◌, ap, map}
use Rattle.css_follow.specs.Standing.{cues_in, waiting_after}
use Rattle.css_follow.proofs.Marks.{AreMarked-first, cues-after}
use Rattle.css_follow.proofs.cues.CuesFollower.prepare.Goals as goal

pub invariant_of-self : goal.invariant_of-self
invariant_of-self c =
    AreMarked-first c.self.inside.notes.items c.args.sheet.now.cues c.in_ok-self-inside.field-0.items
    (c.in_ok-self-inside.ensures ∙ ap (λ n. map (waiting_after n) c.args.sheet.now.cues) c.deref.ensures.value)

pub returns-clause-cues : goal.returns-clause-cues
returns-clause-cues c =
    ap cues_in c.in_ok-self-inside.ensures ∙ cues-after c.deref.result.now c.args.sheet.now.cues
