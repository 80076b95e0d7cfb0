use Rattle.std.proofs.Common.{arith, subst}
use Rattle.std.proofs.lemmas.Int.{ints, clamps}
use Rattle.css_model.specs.WallClock.{IsLocal}
use Rattle.css_model.specs.History.{accepted_answers}
use Rattle.css_companion.specs.Standing.{own_of}
use Rattle.css_companion_c.proofs.Narrow.{narrow_wall, wide-kept}
use Rattle.css_companion_c.proofs.until.last_narrow.Goals as goal

pub returns : goal.returns
returns c =
    let companion = c.args.companion.now in
    let wide = wide-kept companion c.args.width _ _ _ c.all_wide_from-wide.result c.local.ensures c.floor-floor.ensures
    c.answers.ensures.kept c.all_wide_from-wide.ensures.wide in (
      record {
        later = omega (arith, ints, clamps);
        range = omega (arith, ints, clamps);
        narrow = λ reading floor upto history known.
            narrow_wall (own_of companion) c.args.width reading companion.client.estimate.kept
            (accepted_answers (own_of companion) history)
            (subst IsLocal c.local.ensures c.all_wide_from-wide.ensures.local) known.client.estimate.narrowest
            (λ each. let q = (wide.wide reading floor (omega (arith, ints, clamps))).1 each in
            omega (arith, ints, clamps, q, upto));
      },
      λ range. (wide.wide _ (omega (arith, ints, clamps)) range).0 (omega (arith, ints, clamps)),
    )

pub returns-then-end-from : goal.returns-then-end-from
returns-then-end-from c = λ range.
    let companion = c.args.companion.now in
    let wide = wide-kept companion c.args.width _ _ _ c.all_wide_from-wide.result c.local.ensures c.floor-floor.ensures
    c.answers.ensures.kept c.all_wide_from-wide.ensures.wide in
    (wide.wide companion.client.floor (omega arith) range).0 (omega (arith, ints, clamps))
