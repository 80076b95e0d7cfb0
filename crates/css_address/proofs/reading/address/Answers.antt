-- By what is read of the text.
use Rattle.std.proofs.Common.{◌∙◌, inl, ap}
use Rattle.css_address.specs.Addresses.{address_read}
use Rattle.css_address.proofs.Texts.{too_long, not_utf8, read, refused}
use Rattle.css_address.proofs.reading.address.Goals as goal

pub returns-then-text-gt-LONGEST_ADDRESS : goal.returns-then-text-gt-LONGEST_ADDRESS
returns-then-text-gt-LONGEST_ADDRESS c = inl (too_long c.args.kind c.args.text.now c.if-text-gt-LONGEST_ADDRESS.true)

pub returns-in_default : goal.returns-in_default
returns-in_default c = inl (not_utf8 c.args.kind c.args.text.now c.in_default.ensures.cases.0)

pub returns-in-Ok-parse : goal.returns-in-Ok-parse
returns-in-Ok-parse c =
    let text =
    read c.args.kind c.args.text.now c.in-Ok.text.now c.if-text-gt-LONGEST_ADDRESS.false c.in-Ok.ensures.cases in
    rw (text ∙ ap (λ parsed. address_read c.args.kind parsed) c.in-Ok-parse.ensures) c.address_in.ensures

pub returns-in-Err : goal.returns-in-Err
returns-in-Err c =
    let text =
    read c.args.kind c.args.text.now c.in-Ok.text.now c.if-text-gt-LONGEST_ADDRESS.false c.in-Ok.ensures.cases in
    rw (text, c.from.ensures) (refused c.args.kind _ c.in-Err.error c.in-Err.ensures)
