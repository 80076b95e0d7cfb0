use Rattle.std.proofs.Common.{arith, ℤ, subst}
use Rattle.std.proofs.Math.Facts.{to_z-of_z}
use Rattle.std.proofs.lemmas.Int.{ints}
use Rattle.css_companion_c.specs.When.{IsPresented}
use Rattle.css_companion_c.proofs.Shown.{met_kept, within, may_show}
use Rattle.css_companion_c.proofs.when.between.Goals as goal

pub returns-then-readings-clause-never : goal.returns-then-readings-clause-never
returns-then-readings-clause-never c = λ _ reading above below shows.
    let companion = c.args.companion.now in
    let values = c.presented-values.result in
    let readings = c.met-readings.result in
    let presented = subst (λ (t : ℤ). IsPresented c.args.timing.now t c.presented-values.result)
    (to_z-of_z c.ranges.tick) c.presented-values.ensures.meaning in
    let met = met_kept companion values _ _ _ readings c.local.ensures c.floor.ensures c.answers.ensures.kept
    c.met-readings.ensures in
    let there = within companion c.args.timing.now c.args.tick values readings presented c.requires.timed
    c.answers.ensures.holds met reading above below shows in
    omega (arith, ints, there.0, there.1, c.if-readings.true)

pub returns-clause-truth : goal.returns-clause-truth
returns-clause-truth c = λ _ reading above below shows.
    let companion = c.args.companion.now in
    let values = c.presented-values.result in
    let readings = c.met-readings.result in
    let presented = subst (λ (t : ℤ). IsPresented c.args.timing.now t c.presented-values.result)
    (to_z-of_z c.ranges.tick) c.presented-values.ensures.meaning in
    let met = met_kept companion values _ _ _ readings c.local.ensures c.floor.ensures c.answers.ensures.kept
    c.met-readings.ensures in
    let there = within companion c.args.timing.now c.args.tick values readings presented c.requires.timed
    c.answers.ensures.holds met reading above below shows in
    let begins = met.begins in
    let ends = met.ends in
    (omega (arith, ints, there.0), omega (arith, ints, there.1))

pub returns-clause-least : goal.returns-clause-least
returns-clause-least c = λ _.
    let companion = c.args.companion.now in
    let values = c.presented-values.result in
    let readings = c.met-readings.result in
    let presented = subst (λ (t : ℤ). IsPresented c.args.timing.now t c.presented-values.result)
    (to_z-of_z c.ranges.tick) c.presented-values.ensures.meaning in
    let met = met_kept companion values _ _ _ readings c.local.ensures c.floor.ensures c.answers.ensures.kept
    c.met-readings.ensures in
    let begins = met.begins in
    let ends = met.ends in
    let inside = c.if-readings.false in
    record {
      ordered = omega (arith, ints);
      floor = omega (arith, ints);
      range = omega (arith, ints);
      each = λ reading from to.
          may_show companion c.args.timing.now c.args.tick values readings presented c.requires.now met reading
          (omega (arith, ints)) (omega (arith, ints)) (omega (arith, ints));
    }
