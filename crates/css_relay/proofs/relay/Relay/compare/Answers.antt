use Rattle.std.proofs.Common.{◌≡◌, ◌∙◌, ap, sym, subst, Result}
use Rattle.std.specs.Prelude.{IfOk}
use Rattle.css_agree.specs.Disagreements.{IsPossibleAt}
use Rattle.css_client.specs.Landings.{judged_of}
use Rattle.css_client.specs.declared.landing.Landing.{Landing}
use Rattle.css_companion.specs.Standing.{own_of}
use Rattle.css_model.specs.History.{accepted_answers}
use Rattle.css_model.specs.WallClock.{Answer, Local}
use Rattle.css_relay.specs.Agreeing.{Compares, Holds}
use Rattle.css_relay.specs.Relays.{Relay, StandsFor}
use Rattle.css_relay.proofs.Agreeing as agreeing
use Rattle.css_relay.proofs.relay.Relay.compare.Goals as goal

pub returns-clause-compares : goal.returns-clause-compares
returns-clause-compares c h s a =
    let own : Local = own_of c.args.self.now.companion in
    let answers = accepted_answers own h in
    let same = ap {A = Relay} (λ r. r.companion) (c.self.view_is ∙ c.forget_stale.ensures.rest) in
    let e : c.judge-judged.result ≡ judged_of own h c.args.reading c.args.bytes.now =
    c.judge-judged.ensures _ h (subst (λ x. StandsFor x h) (sym same) s)
    ∙ ap (λ x. judged_of (own_of x) h c.args.reading c.args.bytes.now) same in
    let P : Result Answer Landing → Type 0 = λ x. IsPossibleAt own c.args.reading x in
    let Q : Result Answer Landing → Type 0 = λ x. IfOk c.admit.result (Compares own c.args.reading x answers
    c.admit.new.agree) in
    subst Q e (c.admit.ensures own answers
    (subst (λ (r : Relay). Holds own r.agree answers) (sym c.self.view_is) (c.forget_stale.ensures.stands h s a))
    (subst P (sym e) (agreeing.judged_possible own h c.args.reading c.args.bytes.now)))
