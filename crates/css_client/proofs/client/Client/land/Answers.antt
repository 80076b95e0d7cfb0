-- What becomes of a datagram, by what the client knows.
use Rattle.std.proofs.Common.{◌≡◌, ◌≤◌, ◌∙◌, ap, sym, subst}
use Rattle.std.specs.Prelude.{Ok, Err, Result}
use Rattle.css_model.specs.Wire.{decoded}
use Rattle.css_model.specs.WallClock.{Answer}
use Rattle.css_model.specs.History.{History, is_asked}
use Rattle.css_client.specs.Clients.{Client, local_of, is_among}
use Rattle.css_client.specs.Landings.{landing_of, landing_by, awaited_if}
use Rattle.css_client.specs.Standing.{StandsFor}
use Rattle.css_client.specs.declared.landing.Landing.{Landing}
use Rattle.css_client.proofs.Answering.{stands_refused, asked-landing, stands_landed, truth_lands}
use Rattle.css_client.proofs.Judging.{awaited_by_client, IsAwaited, awaited-by_history, refused-none, judged-refused}
use Rattle.css_client.proofs.Judging.{landings_are_judged}
use Rattle.css_client.proofs.client.Client.land.Goals as goal

-- ---- refused
refused : (c : goal.In-Err) → awaited_if (λ originate. is_among originate c.args.self.now.asked)
    (decoded c.args.bytes.now) ≡ Err c.in-Err.refusal
refused c =
    subst (λ (k : Client).
    awaited_if (λ originate. is_among originate k.asked) (decoded c.args.bytes.now) ≡ Err c.in-Err.refusal)
    c.self.view_is (sym c.awaited.ensures.value ∙ c.in-Err.is)

pub returns-in-Err-clause-landing : goal.returns-in-Err-clause-landing
returns-in-Err-clause-landing c = λ history stands.
    let own = local_of c.args.self.now in
    sym ((landings_are_judged own history 0 c.args.reading c.args.bytes.now).landing
    ∙ ap (λ (r : Result Answer Landing). landing_by r)
    (judged-refused c.args.self.now history c.args.reading c.args.bytes.now c.in-Err.refusal stands (refused c)))

pub returns-in-Err-clause-stands : goal.returns-in-Err-clause-stands
returns-in-Err-clause-stands c = λ history peer stands.
    stands_refused c.args.self.now history peer c.args.reading c.args.bytes.now stands
    (refused-none history peer c.args.reading c.args.bytes.now c.in-Err.refusal
    (awaited_by_client c.args.self.now history c.args.bytes.now stands ∙ refused c))

pub returns-in-Err-clause-truth : goal.returns-in-Err-clause-truth
returns-in-Err-clause-truth c =
    λ history peer errors world who moment_of landed stands for happens lands truth.
    returns-in-Err-clause-landing c history stands
    ∙ truth_lands c.args.self.now history peer c.args.reading c.args.bytes.now errors world who moment_of landed
    stands for happens lands truth

-- ---- awaited
awaited : (c : goal.After-self-1) (history : History) → StandsFor c.args.self.now history
    → IsAwaited (λ originate. is_asked originate history) (decoded c.args.bytes.now) c.in-Ok.message
awaited c history stands =
    awaited-by_history c.args.self.now history c.args.bytes.now c.in-Ok.message stands
    (subst (λ (k : Client).
    awaited_if (λ originate. is_among originate k.asked) (decoded c.args.bytes.now) ≡ Ok c.in-Ok.message)
    c.self.view_is (sym c.awaited.ensures.value ∙ c.in-Ok.is))

pub returns-clause-landing : goal.returns-clause-landing
returns-clause-landing c = λ history stands.
    let client : Client = record {
      asked = c.self.inside.asked;
      promises = c.self.inside.promises;
      estimate = c.self.inside.estimate;
      floor = c.self.inside.floor;
      after_sleep = c.self.inside.after_sleep;
    } in
    let is = awaited c history stands in
    c.in_ok-landing.ensures.landing
    ∙ sym (asked-landing client history c.args.reading c.args.bytes.now c.in-Ok.message
    (subst (λ (k : Client). StandsFor k history) (sym c.self.view_is) stands) is.came is.answers is.asked)
    ∙ ap (λ (k : Client). landing_of (local_of k) history c.args.reading c.args.bytes.now) c.self.view_is

pub returns-clause-stands : goal.returns-clause-stands
returns-clause-stands c = λ history peer stands.
    let client : Client = record {
      asked = c.self.inside.asked;
      promises = c.self.inside.promises;
      estimate = c.self.inside.estimate;
      floor = c.self.inside.floor;
      after_sleep = c.self.inside.after_sleep;
    } in
    let is = awaited c history stands in
    stands_landed client history peer c.args.reading c.args.bytes.now c.in-Ok.message c.take_in.new.promises
    c.take_in.new.estimate c.in_ok-landing.landing
    (subst (λ (k : Client). StandsFor k history) (sym c.self.view_is) stands)
    (subst (λ (k : Client). k.floor ≤ c.args.reading) (sym c.self.view_is) c.requires.floor)
    is.came is.answers is.asked
    c.in_ok-landing.ensures.landing c.in_ok-landing.ensures.accepted c.in_ok-landing.ensures.refused
    c.in_ok-landing.ensures.promises

pub returns-clause-truth : goal.returns-clause-truth
returns-clause-truth c = λ history peer errors world who moment_of landed stands for happens lands truth.
    returns-clause-landing c history stands
    ∙ truth_lands c.args.self.now history peer c.args.reading c.args.bytes.now errors world who moment_of landed
    stands for happens lands truth
