-- The wall clock goes as far as the span of an answer that came at once says.
use Rattle.std.proofs.Common.{◌≡◌, ◌∙◌, subst}
use Rattle.css_model.specs.WallClock.{IsLocal}
use Rattle.css_carry.proofs.Passing.{is_possible, is_near, passed, span_is}
use Rattle.css_carry.proofs.carry.passed.Goals as goal

pub span-requires-clause-possible : goal.span-requires-clause-possible
span-requires-clause-possible c =
    is_possible c.args.local.now c.args.error c.args.reading c.args.later
    (subst IsLocal c.local.view_is c.local.invariant) c.requires.error c.requires.order

is_local : (c : goal.After-span) → IsLocal c.args.local.now
is_local c = subst IsLocal c.local.view_is c.local.invariant

is_passed : (c : goal.After-span) → c.span.result ≡ passed c.args.local.now c.args.error c.args.reading c.args.later
is_passed c =
    c.span.ensures.value
    ∙ span_is c.args.local.now c.args.error c.args.reading c.args.later (is_local c) c.requires.error

pub returns-clause-value : goal.returns-clause-value
returns-clause-value c = is_passed c

pub returns-clause-low : goal.returns-clause-low
returns-clause-low c =
    rw (is_passed c) (is_near c.args.local.now c.args.error c.args.reading c.args.later (is_local c) c.requires.error
    c.requires.order c.requires.range).0

pub returns-clause-high : goal.returns-clause-high
returns-clause-high c =
    rw (is_passed c) (is_near c.args.local.now c.args.error c.args.reading c.args.later (is_local c) c.requires.error
    c.requires.order c.requires.range).1
