use Rattle.std.proofs.Common.{ℕ, ◌+◌, ◌-◌, ◌*◌, arith, ap, ◌∙◌, Some, get_or}
use Rattle.css_schedule.proofs.Quick.{digit_here, digits_next, small_next, fits_next}
use Rattle.css_schedule.proofs.words.leading_digits.Goals as goal

pub overflow_mul-number : goal.overflow_mul-number
overflow_mul-number c =
    let small = c.digits.invariant.small in
    omega (arith, fits_next c.digits.count c.digits.number 0 small (omega arith) (omega arith))

pub overflow_add-number : goal.overflow_add-number
overflow_add-number c =
    let byte = get_or c.args.bytes.now c.digits.count 0 in
    let small = c.digits.invariant.small in
    omega (arith, fits_next c.digits.count c.digits.number (byte - 48) small (omega arith) (omega arith))

pub digits-preserved : goal.digits-preserved
digits-preserved c =
    let byte = get_or c.args.bytes.now c.digits.count 0 in
    let digit = digit_here byte (omega arith) (omega arith) in
    record {
      value =
          digits_next c.args.bytes.now c.digits.count c.digits.number (omega arith) digit c.digits.invariant.value
          ∙ ap (λ (k : ℕ). Some (c.digits.number * 10 + k)) (omega arith);
      small =
          omega (arith, small_next c.digits.count c.digits.number (byte - 48) c.digits.invariant.small (omega arith));
      within = omega arith;
    }
