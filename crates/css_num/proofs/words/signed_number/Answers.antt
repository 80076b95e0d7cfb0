use Rattle.std.proofs.Common.{◌≡◌, arith}
use Rattle.std.proofs.lemmas.Grind.{common_steps}
use Rattle.css_num.specs.Words.{signed_number_of}
use Rattle.css_num.proofs.Spellings.{SpellsWithin-answer, signed_number_of-small}
use Rattle.css_num.proofs.words.signed_number.Goals as goal

pub returns-in-45-clause-spelling : goal.returns-in-45-clause-spelling
returns-in-45-clause-spelling c =
    let value : c.negative_number.result ≡ signed_number_of c.args.bytes.now c.args.digits =
    grind (arith, common_steps) in
    SpellsWithin-answer c.args.bytes.now c.args.digits c.negative_number.result c.requires value

pub returns-in-45-clause-small : goal.returns-in-45-clause-small
returns-in-45-clause-small c =
    let value : c.negative_number.result ≡ signed_number_of c.args.bytes.now c.args.digits =
    grind (arith, common_steps) in
    signed_number_of-small c.args.bytes.now c.args.digits c.negative_number.result c.requires value

pub returns-in_default-clause-spelling : goal.returns-in_default-clause-spelling
returns-in_default-clause-spelling c =
    let value : c.short_number.result ≡ signed_number_of c.args.bytes.now c.args.digits = grind (arith, common_steps) in
    SpellsWithin-answer c.args.bytes.now c.args.digits c.short_number.result c.requires value

pub returns-in_default-clause-small : goal.returns-in_default-clause-small
returns-in_default-clause-small c =
    let value : c.short_number.result ≡ signed_number_of c.args.bytes.now c.args.digits = grind (arith, common_steps) in
    signed_number_of-small c.args.bytes.now c.args.digits c.short_number.result c.requires value
