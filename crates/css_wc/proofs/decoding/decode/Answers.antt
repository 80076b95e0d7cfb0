-- The 32 bytes of version 0 are those of their fields, but for the reserved one.
use Rattle.std.proofs.Common.{◌≡◌, ◌<◌, ◌∙◌, ap, arith, length, slice_index}
use Rattle.std.specs.Prelude.{All}
use Rattle.std.proofs.lemmas.List.Elements.{All-from_get_or}
use Rattle.css_model.specs.Wire.{encoded}
use Rattle.css_wc.proofs.WrittenBack.{encoded-fields}
use Rattle.css_wc.proofs.decoding.decode.Goals as goal

pub returns-in-None-clause-written_back : goal.returns-in-None-clause-written_back
returns-in-None-clause-written_back c =
    let xs = c.args.bytes.now in
    let bytes : All (λ b. b < 256) xs =
    All-from_get_or (λ b. b < 256) xs 0 (λ i _. omega (arith, c.type_inv.bytes i)) in
    let long : length xs ≡ 32 = omega arith in
    let version : slice_index xs 0 ≡ 0 = omega arith in
    ap encoded c.fields_of-message.ensures ∙ encoded-fields xs long bytes version
