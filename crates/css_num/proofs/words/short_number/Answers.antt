use Rattle.std.proofs.Common.{◌≡◌, ◌∙◌, ap, sym, arith, Some, to_z}
use Rattle.std.proofs.lemmas.Int.{ints}
use Rattle.std.specs.Prelude.{pos, option_map}
use mir.Syntax.{w64}
use Rattle.css_num.specs.Words.{short_number_of}
use Rattle.css_num.proofs.Spellings.{short_number_of-below, short_number_of-small}
use Rattle.css_num.proofs.words.short_number.Goals as goal

pub returns-in_err-number : goal.returns-in_err-number
returns-in_err-number c =
    let read = short_number_of-below c.args.bytes.now c.args.digits (omega arith) (omega arith) in
    c.from_residual.ensures ∙ ap (option_map pos) (c.in_err-number.ensures ∙ read)

pub overflow_cast-result : goal.overflow_cast-result
overflow_cast-result c =
    let read = short_number_of-below c.args.bytes.now c.args.digits (omega arith) (omega arith) in
    let is : short_number_of c.args.bytes.now c.args.digits ≡ Some c.in_ok-number.number =
    sym (c.in_ok-number.ensures ∙ read) in
    omega (arith, ints, short_number_of-small c.args.bytes.now c.args.digits c.in_ok-number.number (omega arith) is)

pub returns : goal.returns
returns c =
    let read = short_number_of-below c.args.bytes.now c.args.digits (omega arith) (omega arith) in
    let is : short_number_of c.args.bytes.now c.args.digits ≡ Some c.in_ok-number.number =
    sym (c.in_ok-number.ensures ∙ read) in
    let same : to_z w64 c.in_ok-number.number ≡ pos c.in_ok-number.number =
    omega (arith, ints, short_number_of-small c.args.bytes.now c.args.digits c.in_ok-number.number (omega arith) is) in
    ap Some same ∙ ap (option_map pos) (sym is)
