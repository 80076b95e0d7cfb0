-- The line is made of its pieces, and is then added whole.
use Rattle.std.proofs.Common.{◌≡◌, ◌∙◌}
use Rattle.std.specs.Prelude.{codes, decimal}
use Rattle.std.specs.String.{string_bytes}
use Rattle.css_agree.specs.Naming.{between_line}
use Rattle.css_agree.proofs.Shown.{added, joined}
use Rattle.css_agree.proofs.naming.print_numbers.Goals as goal

pub returns : goal.returns
returns c =
    let low = c.in-Some.low in
    let high = c.in-Some-high.high in
    let line : string_bytes c.in_ok-line.line ≡ between_line c.args.number low high =
    joined (decimal c.args.number) (codes " between ") (decimal low) (codes " ") (decimal high) (codes "\n")
    (string_bytes c.in_ok-line.line) c.in_ok-line.ensures.ok in
    rw (c.in-Some.is, c.in-Some-high.is)
    (added c.extend_from_slice.result c.extend_from_slice.new.self.items c.args.out.now.items c.as_bytes.result.now
    (between_line c.args.number low high) c.extend_from_slice.ensures.items (c.as_bytes.ensures.value ∙ line))
