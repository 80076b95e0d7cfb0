use Rattle.std.proofs.Common.{◌≡◌, ◌∙◌, ℕ, ◌+◌, ◌≤◌, ◌^◌, ◌↔◌, arith, ap, subst, to_z, of_z}
use Rattle.std.specs.Prelude.{ℤ, pos, ◌+ℤ◌, ◌-ℤ◌, ◌*ℤ◌, ◌≤ℤ◌, unsigned_abs}
use Rattle.std.proofs.lemmas.Int.{ints}
use mir.Syntax.{w128}
use Rattle.css_model.specs.WallClock.{Answer, Local, lo}
use Rattle.css_companion_c.proofs.Reached.{into_same, lower_iff, lo-near}
use Rattle.css_companion_c.proofs.reaching.lower_reaches.Goals as goal

own : (c : goal.After-moved-2) → Local
own c = record { error = c.local.inside.error; precision = c.local.inside.precision }

answer : (c : goal.After-moved-2) → Answer
answer c = record {
  t1 = c.answer.inside.t1;
  t2 = c.answer.inside.t2;
  t3 = c.answer.inside.t3;
  t4 = c.answer.inside.t4;
  precision = c.answer.inside.precision;
  error = c.answer.inside.error;
}

pub returns-clause-meaning : goal.returns-clause-meaning
unfolding own answer
returns-clause-meaning c =
    let a = c.answer.inside in
    let begin = to_z w128 (of_z w128 c.moved-2.result) in
    let factor = pos (256000000 + c.local.inside.error) in
    let from : to_z w128 (of_z w128 c.moved.result) ≡ (c.args.value +ℤ pos (a.precision + 1)) -ℤ pos a.t3 =
    omega (arith, ints) in
    let scaled : to_z w128 (of_z w128 c.scaled-ahead.result) ≡ c.scaled-ahead.result = omega (arith, ints) in
    let ahead = scaled ∙ c.scaled-ahead.ensures.value
    ∙ ap (λ (z : ℤ). z *ℤ pos (256000000 + c.local.inside.error)) from in
    let goes = into_same c.times_in-passed.result _ _ _ _ ahead c.from.ensures c.times_in-passed.ensures.meaning in
    subst (λ (l : Local). (reading : ℕ) → (begin ≤ℤ pos reading) ↔ (c.args.value ≤ℤ lo l c.args.answer.now reading))
    c.local.view_is
    (subst (λ (x : Answer). (reading : ℕ) → (begin ≤ℤ pos reading) ↔ (c.args.value ≤ℤ lo (own c) x reading))
    c.answer.view_is
    (lower_iff (own c) (answer c) c.args.value c.times_in-passed.result begin goes (omega (arith, ints))))

pub returns-clause-near : goal.returns-clause-near
unfolding own answer
returns-clause-near c = λ reading range.
    subst (λ (l : Local). unsigned_abs (lo l c.args.answer.now reading) ≤ 2 ^ 68) c.local.view_is
    (subst (λ (x : Answer). unsigned_abs (lo (own c) x reading) ≤ 2 ^ 68) c.answer.view_is
    (lo-near (own c) (answer c) reading c.local.invariant c.answer.invariant range))
