-- The products at both ends of the parent's span are those at both ends of the root's.
use Rattle.std.proofs.Common.{rules, ◌↔◌}
use Rattle.std.specs.Prelude.{IsTrue}
use Rattle.css_num.specs.Spans.{ProductsFit}
use Rattle.css_clock.specs.Ticks.{Correlation, HoldsOver}
use Rattle.css_clock.proofs.Shapes.{holds-steps}
use Rattle.css_clock.proofs.correlated.CorrelatedTick.holds.Goals as goal

pub returns-then-holds : goal.returns-then-holds
returns-then-holds g c =
    let clock = c.args.self.now in
    let correlation : Correlation =
    record { speed = clock.speed; parent_ticks = clock.parent_ticks; child_ticks = clock.child_ticks } in
    let holds : HoldsOver (g.P.Tick.holds_at clock.parent) c.args.root = search rules in
    let steps =
    holds-steps (g.P.Tick.holds_at clock.parent) clock.rate (g.P.Tick.rate_of clock.parent) c.rate.result correlation
    (g.P.Tick.value_at clock.parent) c.args.root c.span.result c.since.result c.factor.result
    holds c.rate.ensures c.span.ensures.value (search rules) (search rules) in
    let fits : IsTrue c.fits.result ↔ ProductsFit c.since.result c.factor.result = search rules in
    (λ yes. steps.0 (fits.0 yes), λ on. fits.1 (steps.1 on))
