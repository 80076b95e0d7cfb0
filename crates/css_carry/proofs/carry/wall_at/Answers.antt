-- Each end is the told one, and so many nanoseconds more.
use Rattle.std.proofs.Common.{◌≡◌, ◌∙◌, ap, ap₂, arith}
use Rattle.std.proofs.lemmas.Int.{ints}
use Rattle.std.specs.Prelude.{ℤ}
use Rattle.css_agree.specs.Carrying.{carried}
use Rattle.css_num.proofs.Products.{held}
use Rattle.css_num.specs.Spans.{Interval}
use Rattle.css_carry.proofs.carry.wall_at.Goals as goal

pub returns-clause-value : goal.returns-clause-value
returns-clause-value c =
    let passed = c.passed.view_is ∙ c.passed-passed.ensures.value in
    let span = carried c.args.local.now c.args.error c.args.wall c.args.reading c.args.later in
    let lo : held c.sum.result ≡ span.lo =
    omega (
      arith,
      ints,
      c.sum.ensures.value,
      ap (λ (i : Interval). i.lo) c.wall.view_is,
      ap (λ (i : Interval). i.lo) passed,
    ) in
    let hi : held c.sum-2.result ≡ span.hi =
    omega (
      arith,
      ints,
      c.sum-2.ensures.value,
      ap (λ (i : Interval). i.hi) c.wall.view_is,
      ap (λ (i : Interval). i.hi) passed,
    ) in
    ap₂ (λ (lo : ℤ). λ (hi : ℤ). let both : Interval = record { lo = lo; hi = hi } in both) lo hi
