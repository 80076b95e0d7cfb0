-- The line is made of its pieces, and is then added whole.
use Rattle.std.proofs.Common.{◌≡◌, ◌∙◌, ap₂, ℤ, to_z, of_z}
use Rattle.std.specs.Fmt.{signed_decimal}
use Rattle.std.specs.Prelude.{codes, decimal}
use Rattle.std.specs.Int.{w128}
use Rattle.std.specs.String.{string_bytes}
use Rattle.std.proofs.lemmas.Int.{to_z-of_z}
use Rattle.css_agree.specs.Printed.{ends_line}
use Rattle.css_agree.proofs.Shown.{added, joined}
use Rattle.css_agree.proofs.printing.print_ends.Goals as goal

pub returns-clause-ok : goal.returns-clause-ok
returns-clause-ok c =
    let number = c.args.number in
    let word = c.args.word.now in
    let low : to_z w128 (of_z w128 c.args.low) ≡ c.args.low = to_z-of_z w128 c.args.low c.ranges.low in
    let high : to_z w128 (of_z w128 c.args.high) ≡ c.args.high = to_z-of_z w128 c.args.high c.ranges.high in
    let pieces : string_bytes c.in_ok-line.line
    ≡ ends_line number word (to_z w128 (of_z w128 c.args.low)) (to_z w128 (of_z w128 c.args.high)) =
    joined (decimal number) word (signed_decimal (to_z w128 (of_z w128 c.args.low))) (codes " ")
    (signed_decimal (to_z w128 (of_z w128 c.args.high))) (codes "\n") (string_bytes c.in_ok-line.line)
    c.in_ok-line.ensures.ok in
    let line : string_bytes c.in_ok-line.line ≡ ends_line number word c.args.low c.args.high =
    pieces ∙ ap₂ (λ (l h : ℤ). ends_line number word l h) low high in
    added c.extend_from_slice.result c.extend_from_slice.new.self.items c.args.out.now.items c.as_bytes.result.now
    (ends_line number word c.args.low c.args.high) c.extend_from_slice.ensures.items
    (c.as_bytes.ensures.value ∙ line)
