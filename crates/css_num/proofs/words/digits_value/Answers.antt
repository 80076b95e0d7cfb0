use Rattle.std.proofs.Common.{arith, ◌∙◌, sym, ◌^◌}
use Rattle.css_num.proofs.Numerals.{digits_after-next_beyond, digits_after-end}
use Rattle.css_num.proofs.words.digits_value.Goals as goal

pub returns-in_err-checked_mul : goal.returns-in_err-checked_mul
returns-in_err-checked_mul c =
    c.from_residual.ensures
    ∙ sym
    (digits_after-next_beyond (2 ^ 64) c.loop-byte.number c.loop-byte.byte-index c.args.bytes.now (omega arith)
    (omega (arith, c.in_err-checked_mul.ensures)))
    ∙ c.loop-byte.invariant.rest

pub returns-in_err-number : goal.returns-in_err-number
returns-in_err-number c =
    c.from_residual-in_err-number.ensures
    ∙ sym
    (digits_after-next_beyond (2 ^ 64) c.loop-byte.number c.loop-byte.byte-index c.args.bytes.now (omega arith)
    (omega (arith, c.in_err-number.ensures, c.in_ok-checked_mul.ensures)))
    ∙ c.loop-byte.invariant.rest

pub returns : goal.returns
returns c =
    sym (digits_after-end (2 ^ 64) c.loop-byte.number c.loop-byte.byte-index c.args.bytes.now (omega arith)
    (omega arith)) ∙ c.loop-byte.invariant.rest
