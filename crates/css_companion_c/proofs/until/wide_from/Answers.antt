use Rattle.std.proofs.Common.{arith}
use Rattle.std.specs.Prelude.{pos}
use Rattle.std.proofs.lemmas.Int.{ints}
use Rattle.css_companion_c.proofs.Narrow.{wide_iff}
use Rattle.css_companion_c.proofs.Reached.{width-near}
use Rattle.css_companion_c.proofs.until.wide_from.Goals as goal

pub left-requires-clause-width : goal.left-requires-clause-width
left-requires-clause-width c =
    let near = width-near c.args.local.now c.args.answer.now 0 c.growth-growth.ensures.local
    c.growth-growth.ensures.answer (omega arith) in
    omega (arith, ints, near, c.scaled_width.ensures)

pub returns : goal.returns
returns c = λ reading range.
    wide_iff c.args.local.now c.args.answer.now reading c.growth-growth.result c.args.limit c.left.result _
    c.growth-growth.ensures.local c.growth-growth.ensures.answer c.growth-growth.ensures.value
    (omega (arith, ints, c.left.ensures.value, c.scaled_width.ensures))
    (let iff = c.needed.ensures.meaning (pos reading) (omega (arith, ints)) in (
      λ h. let q = iff.0 (omega (arith, ints, h)) in omega (arith, ints, q),
      λ h. let q = iff.1 (omega (arith, ints, h)) in omega (arith, ints, q),
    ))
