use Rattle.std.proofs.Common.{arith}
use Rattle.css_tsmsg.proofs.Values.{digit_more, wall_below, ended}
use Rattle.css_tsmsg.proofs.digits.digits_value.Goals as goal

pub overflow_mul-value : goal.overflow_mul-value
overflow_mul-value c = let more =
    digit_more c.args.digits.now c.loop-digit.digit-index c.loop-digit.value c.requires.are_digits c.requires.few
    c.loop-digit-test.true c.loop-digit.invariant in omega (arith, more.1)

pub overflow_add-value : goal.overflow_add-value
overflow_add-value c = let more =
    digit_more c.args.digits.now c.loop-digit.digit-index c.loop-digit.value c.requires.are_digits c.requires.few
    c.loop-digit-test.true c.loop-digit.invariant in omega (arith, more.1)

pub loop-digit-preserved : goal.loop-digit-preserved
loop-digit-preserved c =
    rw c.from.ensures
    (digit_more c.args.digits.now c.loop-digit.digit-index c.loop-digit.value c.requires.are_digits c.requires.few
    c.loop-digit-test.true c.loop-digit.invariant).0

pub returns-clause-below : goal.returns-clause-below
returns-clause-below c =
    λ k few.
    rw (ended c.args.digits.now c.loop-digit.digit-index c.loop-digit.value c.loop-digit-test.false
    c.loop-digit.invariant) (wall_below c.args.digits.now k c.requires.are_digits few)

pub returns-clause-value : goal.returns-clause-value
returns-clause-value c =
    ended c.args.digits.now c.loop-digit.digit-index c.loop-digit.value c.loop-digit-test.false c.loop-digit.invariant
