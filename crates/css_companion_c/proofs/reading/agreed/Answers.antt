use Rattle.std.proofs.Common.{refl, subst}
use Rattle.css_agree.specs.Agreements.{AgreesAt, IsTrueOf}
use Rattle.css_agree.specs.declared.agreed.Agreed.TheVariants.{Nothing, Disagree}
use Rattle.css_model.specs.WallClock.{Local}
use Rattle.css_num.specs.Spans.{Interval}
use Rattle.css_companion_c.specs.Noticing.{accepted}
use Rattle.css_companion_c.proofs.reading.agreed.Goals as goal

pub returns-in-Some-clause-truth : goal.returns-in-Some-clause-truth
returns-in-Some-clause-truth c = λ _ h agrees.
    let now = c.args.follower.now in
    let answers = accepted now.companion h in
    subst (λ (own : Local). IsTrueOf own c.args.reading answers
    (record { lo = c.in-Some.wall.lo; hi = c.in-Some.wall.hi })) agrees.local
    (subst (λ (s : Interval). IsTrueOf now.agree.local c.args.reading answers s) c.in-Some.ensures.value
    (c.in-Within.ensures.truth answers agrees.stands))

pub returns-in-Nothing-clause-code : goal.returns-in-Nothing-clause-code
returns-in-Nothing-clause-code c = λ _ h agrees.
    let answers = accepted c.args.follower.now.companion h in (
      Nothing,
      subst (λ (own : Local). AgreesAt own c.args.reading answers Nothing) agrees.local
          (c.in-Nothing.ensures.agrees answers agrees.stands),
      refl,
    )

pub returns-in-Disagree-clause-code : goal.returns-in-Disagree-clause-code
returns-in-Disagree-clause-code c = λ _ h agrees.
    let answers = accepted c.args.follower.now.companion h in (
      Disagree c.in-Disagree.low c.in-Disagree.high,
      subst (λ (own : Local). AgreesAt own c.args.reading answers (Disagree c.in-Disagree.low c.in-Disagree.high))
          agrees.local (c.in-Disagree.ensures.agrees answers agrees.stands),
      refl,
    )
