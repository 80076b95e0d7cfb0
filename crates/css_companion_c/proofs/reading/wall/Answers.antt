use Rattle.std.proofs.Common.{Some, ◌∙◌, ap, sym, subst}
use Rattle.css_num.specs.Spans.{Interval}
use Rattle.css_client.specs.Standing.{ContainsTheWall}
use Rattle.css_companion_c.proofs.reading.wall.Goals as goal

pub returns-in-Some-ends_of-clause-span : goal.returns-in-Some-ends_of-clause-span
returns-in-Some-ends_of-clause-span c = λ _ history known.
    sym (c.in-Some.ensures.span _ history known) ∙ ap Some c.in-Some-ends_of.ensures.value

pub returns-in-Some-ends_of-clause-truth : goal.returns-in-Some-ends_of-clause-truth
returns-in-Some-ends_of-clause-truth c = λ _.
    subst (λ (s : Interval). ContainsTheWall c.args.follower.now.companion.client c.args.reading (Some s))
    c.in-Some-ends_of.ensures.value c.in-Some.ensures.holds
