-- The ends of an answer whose scaled width isn't below zero are in order.
use Rattle.std.proofs.Common.{arith}
use Rattle.std.specs.Prelude.{◌≤ℤ◌}
use Rattle.std.proofs.lemmas.Int.{ints}
use Rattle.css_model.specs.WallClock.{lo, hi}
use Rattle.css_model.proofs.Ends.{lo-hi}
use Rattle.css_span.proofs.width.span.Goals as goal

pub invariant_of-result : goal.invariant_of-result
invariant_of-result c =
    let order : lo c.args.local.now c.args.answer.now c.args.reading ≤ℤ hi c.args.local.now c.args.answer.now
    c.args.reading =
    lo-hi c.args.local.now c.args.answer.now c.args.reading c.lowest.ensures.local c.requires.possible in
    omega (arith, ints)
