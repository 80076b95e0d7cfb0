-- The image of the parent's span is the clock's.
use Rattle.std.proofs.Common.{◌≡◌, rules, arith, ◌≤ℤ◌}
use Rattle.std.proofs.lemmas.Int.{ints}
use Rattle.css_num.specs.Spans.{ProductsFit}
use Rattle.css_clock.specs.Ticks.{Correlation, child_value, span_of}
use Rattle.css_clock.proofs.Goes.{child_goes, IsSpanOf-answer}
use Rattle.css_clock.proofs.Shapes.{holds-steps, span_of-steps}
use Rattle.css_clock.proofs.correlated.CorrelatedTick.span.Goals as goal
use Rattle.css_clock.proofs.correlated.CorrelatedTick.span.Given as given

pub child_span-requires-clause-fits : goal.child_span-requires-clause-fits
child_span-requires-clause-fits g c =
    let clock = c.args.self.now in
    let correlation : Correlation =
    record { speed = clock.speed; parent_ticks = clock.parent_ticks; child_ticks = clock.child_ticks } in
    let steps =
    holds-steps (g.P.Tick.holds_at clock.parent) clock.rate (g.P.Tick.rate_of clock.parent) c.rate-parent.result
    correlation (g.P.Tick.value_at clock.parent) c.args.root c.span.result c.since.result c.factor.result
    (record { low = c.requires.low.parent; high = c.requires.high.parent }) c.rate-parent.ensures c.span.ensures.value
    (search rules) (search rules) in
    let fits : ProductsFit c.since.result c.factor.result = steps.1 c.requires in
    search (rules, fits)

value : (g : given.Over) (c : goal.After-child_span g)
    → c.child_span.result ≡ span_of (λ root.
    child_value c.args.self.now.rate (g.P.Tick.rate_of c.args.self.now.parent)
    (record {
      speed = c.args.self.now.speed;
      parent_ticks = c.args.self.now.parent_ticks;
      child_ticks = c.args.self.now.child_ticks;
    }) (g.P.Tick.value_at c.args.self.now.parent root)) c.args.root
value g c =
    let clock = c.args.self.now in
    let correlation : Correlation =
    record { speed = clock.speed; parent_ticks = clock.parent_ticks; child_ticks = clock.child_ticks } in
    span_of-steps clock.rate (g.P.Tick.rate_of clock.parent) c.rate-parent.result correlation
    (g.P.Tick.value_at clock.parent) c.args.root c.span.result c.since.result c.factor.result c.divisor.result
    c.child_span.result
    c.rate-parent.ensures c.span.ensures.value (search rules) (search rules) c.divisor.ensures.value (search rules)

pub returns-clause-value : goal.returns-clause-value
returns-clause-value g c = value g c

pub returns-clause-meaning : goal.returns-clause-meaning
returns-clause-meaning g c =
    let clock = c.args.self.now in
    let correlation : Correlation =
    record { speed = clock.speed; parent_ticks = clock.parent_ticks; child_ticks = clock.child_ticks } in
    let inside = c.span.ensures.meaning.lo_reached.1 in
    let ordered : c.args.root.lo ≤ℤ c.args.root.hi = omega (arith, ints, inside.low, inside.high) in
    IsSpanOf-answer _ _ c.args.root c.child_span.result
    (child_goes clock.rate (g.P.Tick.rate_of clock.parent) correlation (g.P.Tick.speeds clock.parent)
    (g.P.Tick.value_at clock.parent) c.goes.ensures) ordered (value g c)
