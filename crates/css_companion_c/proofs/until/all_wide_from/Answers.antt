use Rattle.std.proofs.Common.{arith, ℕ, ◌<◌, ◌≡◌, subst, to_z, of_z}
use Rattle.std.specs.Prelude.{ℤ, pos, ◌≤ℤ◌, ◌<ℤ◌, ◌↔◌}
use Rattle.std.proofs.lemmas.Int.{ints, clamps}
use Rattle.std.proofs.lemmas.List.Elements.{All-nil}
use mir.Syntax.{w128}
use Rattle.css_model.specs.declared.TheConstants.{LIMIT}
use Rattle.css_model.specs.WallClock.{Answer, scaled_width}
use Rattle.css_companion_c.specs.Until.{IsWide, limit_of}
use Rattle.css_companion_c.proofs.Narrow.{wide-more}
use Rattle.css_companion_c.proofs.until.all_wide_from.Goals as goal

pub loop-answer-init : goal.loop-answer-init
loop-answer-init c = record {
  later = omega (arith, ints);
  wide = λ reading above below. (λ _. All-nil (IsWide c.args.local.now c.args.width reading), λ _. omega (arith, ints));
}

pub loop-answer-preserved : goal.loop-answer-preserved
loop-answer-preserved c =
    let own = c.args.local.now in
    let answers = c.args.answers.now in
    let i = c.loop-answer.answer-index in
    let answer = c.answer-item.result in
    let limit : to_z w128 (of_z w128 c.limit_of-limit.result) ≡ limit_of c.args.width c.args.local.now =
    omega (arith, ints, c.limit_of-limit.ensures.small, c.limit_of-limit.ensures.value) in
    let by_answer : (reading : ℕ) → reading < LIMIT → (c.wide_from.result ≤ℤ pos reading)
    ↔ IsWide c.args.local.now c.args.width reading c.answer-item.result =
    subst (λ (z : ℤ). (reading : ℕ) → reading < LIMIT → (c.wide_from.result ≤ℤ pos reading)
    ↔ (z <ℤ scaled_width c.args.local.now c.answer-item.result reading)) limit c.wide_from.ensures in
    let next = subst (λ (a : Answer). (reading : ℕ) → reading < LIMIT → (c.wide_from.result ≤ℤ pos reading)
    ↔ IsWide c.args.local.now c.args.width reading a) c.answer-item.is by_answer in
    wide-more own c.args.width c.args.floor answers i answer _ c.wide_from.result _ (omega arith)
    c.loop-answer.invariant next (omega (arith, ints, clamps))
