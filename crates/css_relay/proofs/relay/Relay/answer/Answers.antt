-- The datagram is the one that is defined for the history, and so it is true.
use Rattle.std.proofs.Common.{◌≡◌, ◌∙◌, ap, sym, subst}
use Rattle.std.specs.Prelude.{Result, IfOk}
use Rattle.css_model.specs.declared.Message.{Message}
use Rattle.css_companion.specs.Standing.{Companion, own_of}
use Rattle.css_relay.specs.Answers.{answered, answered_after, datagram_of, Responds}
use Rattle.css_relay.specs.Relays.{Relay, StandsFor}
use Rattle.css_relay.specs.declared.fault.RelayFault.{RelayFault}
use Rattle.css_relay.proofs.TwoHops.{answer_is, datagram_is_true}
use Rattle.css_relay.proofs.relay.Relay.answer.Goals as goal

pub returns-clause-value : goal.returns-clause-value
returns-clause-value c = λ history stands.
    let companion : Companion = c.self.inside.companion in
    let s : StandsFor companion history =
    subst (λ (r : Relay). StandsFor r.companion history) (sym c.self.view_is) stands in
    c.respond.ensures.value
    ∙ ap datagram_of
    (subst (λ (r : Relay). answered c.wall.result c.greatest_error.result c.args.ticket
    ≡ answered_after (own_of r.companion) history c.args.reading c.args.ticket) c.self.view_is
    (answer_is companion history c.args.reading c.args.ticket c.wall.result c.greatest_error.result
    (c.wall.ensures.span _ history s) (c.greatest_error.ensures.accepted _ history s)))

pub returns-clause-is_true : goal.returns-clause-is_true
returns-clause-is_true c =
    datagram_is_true c.args.self.now.companion c.args.ticket c.args.reading c.respond.result (λ history stands.
    let companion : Companion = c.self.inside.companion in
    let s : StandsFor companion history =
    subst (λ (r : Relay). StandsFor r.companion history) (sym c.self.view_is) stands in
    subst (λ (r : Result Message RelayFault). IfOk c.respond.result (λ bytes. Responds bytes r))
    (subst (λ (r : Relay). answered c.wall.result c.greatest_error.result c.args.ticket
    ≡ answered_after (own_of r.companion) history c.args.reading c.args.ticket) c.self.view_is
    (answer_is companion history c.args.reading c.args.ticket c.wall.result c.greatest_error.result
    (c.wall.ensures.span _ history s) (c.greatest_error.ensures.accepted _ history s)))
    c.respond.ensures.read_back)
