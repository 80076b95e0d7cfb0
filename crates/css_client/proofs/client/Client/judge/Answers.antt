-- What a datagram tells, by what the client knows, is what it tells by the history.
use Rattle.std.proofs.Common.{◌≡◌, ◌∙◌, ap, sym, subst}
use Rattle.std.specs.Prelude.{Err}
use Rattle.css_model.specs.WallClock.{Local}
use Rattle.css_model.specs.Wire.{decoded}
use Rattle.css_client.specs.Clients.{Client, local_of, is_among, answer_of}
use Rattle.css_client.specs.Landings.{awaited_if, judged_answer, judged_of}
use Rattle.css_client.specs.Standing.{StandsFor}
use Rattle.css_client.proofs.Judging.{judged-refused, judged-awaited}
use Rattle.css_client.proofs.client.Client.judge.Goals as goal

pub returns-in-Err : goal.returns-in-Err
returns-in-Err c = λ history stands.
    sym (judged-refused c.args.self.now history c.args.reading c.args.bytes.now c.in-Err.refusal stands
    (subst (λ (k : Client).
    awaited_if (λ originate. is_among originate k.asked) (decoded c.args.bytes.now) ≡ Err c.in-Err.refusal)
    c.self.view_is (sym c.awaited.ensures.value ∙ c.in-Err.is)))

pub returns-in-Ok : goal.returns-in-Ok
returns-in-Ok c = λ history stands.
    let client : Client = record {
      asked = c.self.inside.asked;
      promises = c.self.inside.promises;
      estimate = c.self.inside.estimate;
      floor = c.self.inside.floor;
      after_sleep = c.self.inside.after_sleep;
    } in
    let message = c.in-Ok.message in
    c.judged.ensures
    ∙ ap (λ (own : Local). judged_answer own c.args.reading (answer_of client.promises c.args.reading message))
    c.self.invariant.0
    ∙ sym (judged-awaited client history c.args.reading c.args.bytes.now message
    (subst (λ (k : Client). StandsFor k history) (sym c.self.view_is) stands)
    (sym c.awaited.ensures.value ∙ c.in-Ok.is))
    ∙ ap (λ (k : Client). judged_of (local_of k) history c.args.reading c.args.bytes.now) c.self.view_is
