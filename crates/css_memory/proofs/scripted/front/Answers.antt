use Rattle.std.proofs.Common.{◌≡◌, ℕ, ◌≤◌, min, length, take, ◌∙◌, ap, arith}
use Rattle.std.proofs.lemmas.List.{take_at, length-take-le, take_min}
use Rattle.std.proofs.lemmas.Grind.{common_steps}
use Rattle.css_memory.proofs.scripted.front.Goals as goal

pub returns-clause-moved : goal.returns-clause-moved
returns-clause-moved c =
    let bytes = c.args.bytes.now in
    let count = c.min-count.result in
    let least : count ≡ min 64 (length bytes) = omega arith in
    let fits : count ≤ length bytes = omega arith in
    let given : c.copy_from_slice.new.self ≡ take count bytes = grind (arith, common_steps) in
    let counts : length c.copy_from_slice.new.self ≡ count = ap length given ∙ length-take-le count bytes fits in
    take_at _ _ count counts ∙ given ∙ ap (λ (n : ℕ). take n bytes) least ∙ take_min 64 bytes
