-- The span of one root value has one number.
use Rattle.std.proofs.Common.{◌≡◌, ◌∙◌, ap, rules}
use Rattle.std.specs.Prelude.{ℤ}
use mir.Syntax.{w128}
use mir.Val.{to_z, of_z}
use Rattle.css_num.specs.Spans.{Interval}
use Rattle.css_clock.specs.Ticks.{Correlation, child_value}
use Rattle.css_clock.proofs.Shapes.{min_same}
use Rattle.css_clock.proofs.correlated.CorrelatedTick.value.Goals as goal

pub returns-clause-value : goal.returns-clause-value
returns-clause-value g c =
    let clock = c.args.self.now in
    let correlation : Correlation =
    record { speed = clock.speed; parent_ticks = clock.parent_ticks; child_ticks = clock.child_ticks } in
    let reading : ℤ → ℤ = λ root.
    child_value clock.rate (g.P.Tick.rate_of clock.parent) correlation (g.P.Tick.value_at clock.parent root) in
    let root : to_z w128 (of_z w128 c.args.root) ≡ c.args.root = search rules in
    let same : c.span.result.lo ≡ reading c.args.root =
    ap (λ (span : Interval). span.lo) c.span.ensures.value ∙ min_same (reading (to_z w128 (of_z w128 c.args.root))) ∙ ap
    reading root in
    search (rules, same)
