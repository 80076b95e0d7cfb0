use Rattle.std.proofs.Common.{◌≡◌, ℤ, arith, rules, refl, true, ◌∙◌, sym, ap, subst, inr, to_z, of_z}
use Rattle.std.specs.Prelude.{pos, int_lt, Some, Err, reverse}
use Rattle.std.proofs.lemmas.Int.{ints}
use Rattle.std.proofs.lemmas.Result.{err_from_is_err_and}
use mir.Syntax.{w128}
use Rattle.css_model.specs.WallClock.{Local, narrowest, scaled_width}
use Rattle.css_companion_c.specs.Snapshots.{own_in, answers_in}
use Rattle.css_companion_c.proofs.Copies.{all_in_range, found_possible}
use Rattle.css_companion_c.proofs.snapshot.wall.Goals as goal

pub returns-in_err-narrowest_of-clause-err : goal.returns-in_err-narrowest_of-clause-err
returns-in_err-narrowest_of-clause-err c =
    let exit =
    err_from_is_err_and c.from_residual-in_err-narrowest_of.result c.from_residual-in_err-narrowest_of.ensures.1 in
    let outside = c.in_err-narrowest_of.ensures.err in
    rw (exit.1 ∙ ap Err exit.2)
    (inr (outside.0, λ ranges later. outside.1 (all_in_range c.args.snapshot.now c.args.reading ranges later)))

pub returns-then-scaled_width-lt0-clause-err : goal.returns-then-scaled_width-lt0-clause-err
returns-then-scaled_width-lt0-clause-err c =
    let snapshot = c.args.snapshot.now in
    let own = c.in_ok-local.ensures.ok in
    let held : to_z w128 (of_z w128 c.scaled_width.result) ≡ c.scaled_width.result = search rules in
    let width : to_z w128 (of_z w128 c.scaled_width.result)
    ≡ scaled_width (own_in snapshot) c.in-Some.answer c.args.reading =
    held ∙ c.scaled_width.ensures ∙ ap (λ (o : Local). scaled_width o c.in-Some.answer c.args.reading) own in
    let low = subst (λ (z : ℤ). int_lt z (pos 0) ≡ true) width c.if-scaled_width-lt0.true in
    let found : narrowest (own_in snapshot) c.args.reading (reverse (answers_in snapshot)) ≡ Some c.in-Some.answer =
    ap (λ (o : Local). narrowest o c.args.reading (reverse (answers_in snapshot))) (sym own)
    ∙ sym c.in_ok-narrowest_of.ensures.ok ∙ c.in-Some.is in
    inr (
      refl,
      λ ranges later.
          let wide = found_possible snapshot c.args.reading c.in-Some.answer ranges later found in
          omega (arith, ints, low, wide),
    )
