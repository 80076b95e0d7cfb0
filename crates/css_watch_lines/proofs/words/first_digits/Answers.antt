use Rattle.std.proofs.Common.{◌≡◌, ◌∙◌, ap, take, min, length, arith, ℕ}
use Rattle.std.proofs.lemmas.List.{take_min}
use Rattle.hex.specs.Hex.{encode_lower}
use Rattle.css_watch_lines.proofs.words.first_digits.Goals as goal

pub returns : goal.returns
returns c =
    let bytes = c.args.bytes.now in
    let least : c.min-count.result ≡ min 64 (length bytes) = omega arith in
    c.in_ok-encode.ensures ∙ ap encode_lower (ap (λ (n : ℕ). take n bytes) least ∙ take_min 64 bytes)
