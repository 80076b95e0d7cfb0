-- The ticket is the one that is defined for the history, and so it reads the wall clock.
use Rattle.std.proofs.Common.{◌≡◌, ◌∙◌, ap, sym, subst}
use Rattle.std.specs.Prelude.{Option, Ok, Result}
use Rattle.css_num.specs.Spans.{Interval}
use Rattle.css_model.specs.declared.Stamp.{Stamp}
use Rattle.css_model.specs.History.{accepted_answers}
use Rattle.css_model.specs.Wire.{decoded}
use Rattle.css_span.specs.WallSpans.{wall_span}
use Rattle.css_companion.specs.Standing.{Companion, own_of}
use Rattle.css_relay.specs.Answers.{requested_by, ticket_at, ticket_by, received_after}
use Rattle.css_relay.specs.Middles.{middle_known}
use Rattle.css_relay.specs.Relays.{Relay, StandsFor}
use Rattle.css_relay.specs.declared.fault.RelayFault.{RelayFault}
use Rattle.css_relay.proofs.TwoHops.{ticket_is_true}
use Rattle.css_relay.proofs.relay.Relay.receive.Goals as goal

pub returns-clause-value : goal.returns-clause-value
returns-clause-value c = λ history stands.
    let companion : Companion = c.self.inside.companion in
    let s : StandsFor companion history =
    subst (λ (r : Relay). StandsFor r.companion history) (sym c.self.view_is) stands in
    let wall = wall_span (own_of companion) c.args.reading (accepted_answers (own_of companion) history) in
    let asked : requested_by (decoded c.args.bytes.now) ≡ Ok c.in_ok-originate.originate =
    sym c.requested.ensures.value ∙ c.in_ok-originate.was in
    subst (λ (r : Relay).
    c.ticket.result ≡ received_after (own_of r.companion) history c.args.reading c.args.bytes.now) c.self.view_is
    (c.ticket.ensures.value
    ∙ ap (λ (o : Option Interval). ticket_at c.in_ok-originate.originate (middle_known o))
    (c.wall.ensures.span _ history s)
    ∙ sym (ap (λ (r : Result Stamp RelayFault). ticket_by wall r) asked))

pub returns-clause-reads : goal.returns-clause-reads
returns-clause-reads c =
    ticket_is_true c.args.self.now.companion c.args.reading c.args.bytes.now c.ticket.result (returns-clause-value c)
