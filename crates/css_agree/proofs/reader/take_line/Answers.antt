-- A line that is in order prints what is meant, and any other one is refused.
use Rattle.std.proofs.Common.{◌≡◌, refl, sym, subst, ap, ◌∙◌}
use Rattle.std.specs.Prelude.{Ok, Err}
use Rattle.std.proofs.lemmas.Result.{err_from_is_err_and}
use Rattle.css_model.specs.WallClock.{Local}
use Rattle.css_agree.specs.Agreeing.{after_line, answers_in}
use Rattle.css_agree.specs.Inputs.{reading_of}
use Rattle.css_agree.specs.Keeping.{StandsFor}
use Rattle.css_agree.specs.Reading.{order_of}
use Rattle.css_agree.proofs.Reading.{meant-err, meant-read}
use Rattle.css_agree.proofs.reader.take_line.Goals as goal

pub returns-in_err-check_order-clause-answers : goal.returns-in_err-check_order-clause-answers
returns-in_err-check_order-clause-answers c = λ older keeps.
    let exit = err_from_is_err_and c.from_residual.result c.from_residual.ensures.1 in
    let order : order_of c.args.earlier c.args.last (reading_of c.in-Ok.line) ≡ Err c.in_err-check_order.field-0.0 =
    rw (sym c.reading-reading.ensures.value) (sym c.in_err-check_order.ensures) in
    rw (c.in-Ok.ensures.value, exit.1 ∙ ap Err exit.2) (record {
      cases = (
        meant-err c.args.agree.now.local older c.args.earlier c.args.last c.args.number c.in-Ok.line
            c.in_err-check_order.field-0.0 keeps.last order,
        refl,
      );
    })

pub returns-in_err-carry_out-clause-answers : goal.returns-in_err-carry_out-clause-answers
returns-in_err-carry_out-clause-answers c = λ older keeps.
    let own = c.args.agree.now.local in
    let exit = err_from_is_err_and c.from_residual-in_err-carry_out.result c.from_residual-in_err-carry_out.ensures.1 in
    let order : order_of c.args.earlier c.args.last (reading_of c.in-Ok.line) ≡ Ok tt =
    rw (sym c.reading-reading.ensures.value) (sym c.in_ok-check_order.ensures) in
    rw (
      meant-read own older c.args.earlier c.args.last c.args.number c.args.text.now c.in-Ok.line
          c.in-Ok.ensures.value keeps.last order,
      exit.1 ∙ ap Err exit.2,
    )
    (record { cases = (c.in_err-carry_out.ensures.answers (answers_in own older) keeps.stands).cases })

pub returns-clause-answers : goal.returns-clause-answers
returns-clause-answers c = λ older keeps.
    let own = c.args.agree.now.local in
    let order : order_of c.args.earlier c.args.last (reading_of c.in-Ok.line) ≡ Ok tt =
    rw (sym c.reading-reading.ensures.value) (sym c.in_ok-check_order.ensures) in
    rw (meant-read own older c.args.earlier c.args.last c.args.number c.args.text.now c.in-Ok.line
    c.in-Ok.ensures.value keeps.last order)
    (record { cases = (c.in_ok-carry_out.ensures.answers (answers_in own older) keeps.stands).cases })

pub returns-clause-keeps : goal.returns-clause-keeps
returns-clause-keeps c = λ older keeps.
    let P : Local → Type 0 = λ own. StandsFor c.carry_out.new.agree (after_line own c.in-Ok.line (answers_in own older))
    in
    rw c.in-Ok.ensures.value (record {
      stands = subst P (sym c.carry_out.ensures.local) (c.in_ok-carry_out.ensures.stands
          (answers_in c.args.agree.now.local older) keeps.stands);
      last = (refl, sym c.reading-reading.ensures.value);
      floor = rw c.reading-reading.ensures.value c.carry_out.ensures.floor;
    })
