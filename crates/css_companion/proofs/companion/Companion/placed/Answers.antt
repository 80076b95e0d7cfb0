-- What is placed is what is defined for the history, and so its report keeps the promise.
use Rattle.std.proofs.Common.{◌≡◌, ◌∙◌, ap, sym, subst}
use Rattle.std.specs.Prelude.{Option, Result}
use Rattle.css_num.specs.Spans.{Interval}
use Rattle.css_model.specs.History.{accepted_answers}
use Rattle.css_span.specs.WallSpans.{wall_span}
use Rattle.css_companion.specs.Headline.{IsPromised}
use Rattle.css_companion.specs.Meanings.{placed_after}
use Rattle.css_companion.specs.Reports.{placed_by, report_of}
use Rattle.css_companion.specs.Standing.{Companion, StandsFor, known, own_of}
use Rattle.css_companion.specs.declared.knowledge.Timing.{Timing}
use Rattle.css_companion.specs.declared.report.Cause.{Cause}
use Rattle.css_companion.specs.declared.report.Report.{Report}
use Rattle.css_companion.proofs.Headline.{headline}
use Rattle.css_companion.proofs.companion.Companion.placed.Goals as goal

pub returns-clause-placed : goal.returns-clause-placed
returns-clause-placed c = λ history stands.
    let i = c.self.inside in
    let companion : Companion = known i.client i.setup i.state i.rate i.texts i.control i.closed in
    let s : StandsFor companion history = subst (λ (k : Companion). StandsFor k history) (sym c.self.view_is) stands in
    let wall = wall_span (own_of companion) c.args.reading (accepted_answers (own_of companion) history) in
    subst (λ (k : Companion).
    c.place.result ≡ placed_after (own_of k) c.args.self.now.setup.selector history c.args.reading)
    c.self.view_is
    (c.place.ensures
    ∙ ap (λ (o : Option Interval). placed_by o c.timing.result) (c.wall.ensures.span history s.client)
    ∙ ap (λ (t : Result Timing Cause). placed_by wall t) (c.timing.ensures.meaning history stands))

pub returns-clause-headline : goal.returns-clause-headline
returns-clause-headline c = λ history stands.
    let own = own_of c.args.self.now in
    let selector = c.args.self.now.setup.selector in
    subst (λ (r : Report). IsPromised own selector history c.args.reading r)
    (sym (ap report_of (returns-clause-placed c history stands)))
    (headline own selector history c.args.reading stands.client.lawful)
