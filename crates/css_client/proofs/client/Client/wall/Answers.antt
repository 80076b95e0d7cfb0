-- The span is that of the narrowest accepted answer, whose span is true.
use Rattle.std.proofs.Common.{sym, subst, length}
use Rattle.std.specs.Prelude.{Option}
use Rattle.css_num.specs.Spans.{Interval}
use Rattle.css_model.specs.World.{IsWorldFor}
use Rattle.css_model.specs.Explains.{Explains}
use Rattle.css_model.specs.declared.Why.TheVariants as why
use Rattle.css_model.specs.History.{Clock, accepted_answers}
use Rattle.std.specs.Prelude.{◌∷◌}
use Rattle.css_client.specs.Clients.{Client, local_of}
use Rattle.css_client.specs.Standing.{StandsFor, SpanHolds}
use Rattle.css_client.proofs.Telling.{wall_holds}
use Rattle.css_client.proofs.client.Client.wall.Goals as goal

pub returns-clause-holds : goal.returns-clause-holds
returns-clause-holds c = λ history errors world who moment_of stands for explains.
    let client : Client = record {
      asked = c.self.inside.asked;
      promises = c.self.inside.promises;
      estimate = c.self.inside.estimate;
      floor = c.self.inside.floor;
      after_sleep = c.self.inside.after_sleep;
    } in
    let stands_inside = subst (λ (k : Client). StandsFor k history) (sym c.self.view_is) stands in
    subst (λ (s : Option Interval). SpanHolds s (world (moment_of (length history))).wall)
    (sym (c.at.ensures.span (accepted_answers (local_of client) history) stands_inside.estimate))
    (wall_holds client history c.args.reading errors world who moment_of stands_inside
    (subst (λ (k : Client). IsWorldFor errors world who (local_of k)) (sym c.self.view_is) for)
    (subst (λ (k : Client). Explains world who errors.tv (local_of k)
    (Clock why.Turn c.args.reading ∷ history) moment_of) (sym c.self.view_is) explains))
