use Rattle.std.proofs.Common.{arith, subst, get_or}
use Rattle.std.proofs.lemmas.Int.{ints, clamps}
use Rattle.css_model.specs.WallClock.{Answer}
use Rattle.css_companion_c.specs.When.{IsMet}
use Rattle.css_companion_c.proofs.Shown.{are_met-none, are_met-more}
use Rattle.css_companion_c.proofs.reaching.met.Goals as goal

pub loop-answer-init : goal.loop-answer-init
loop-answer-init c = are_met-none _ _ _ _ (omega (arith, ints)) (omega (arith, ints))

pub loop-answer-preserved : goal.loop-answer-preserved
loop-answer-preserved c =
    let answers = c.args.answers.now in
    let i = c.loop-answer.answer-index in
    let answer = c.answer-item.result in
    let next : IsMet c.args.local.now c.args.values.now (get_or answers i answer) c.met_by-met.result =
    subst (λ (a : Answer). IsMet c.args.local.now c.args.values.now a c.met_by-met.result) c.answer-item.is
    c.met_by-met.ensures in
    are_met-more c.args.local.now c.args.values.now c.args.floor answers i answer c.loop-answer.readings
    c.met_by-met.result _ (omega arith) c.loop-answer.invariant next (omega (arith, ints, clamps))
    (omega (arith, ints, clamps))
