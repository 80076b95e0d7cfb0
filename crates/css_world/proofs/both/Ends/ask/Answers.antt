-- The companion stands for its history with the request, which is stored.
use Rattle.std.proofs.Common.{refl, ap, ◌∙◌, arith, List, ℕ, [], ◌∷◌, ◌++◌}
use Rattle.css_companion.specs.Standing as companions
use Rattle.css_world.specs.Standing.{Kept, kept}
use Rattle.css_world.proofs.Names.{Ask, peer, history_of, own_reading}
use Rattle.css_world.proofs.Carrying.{at_line, asked}
use Rattle.css_world.proofs.Verbs.{wants}
use Rattle.css_world.proofs.Owning.{may_ask, read_lane, are_on, are_set, refused_memory}
use Rattle.css_world.proofs.both.Ends.ask.Goals as goal

pub ask-request-requires-clause-floor : goal.ask-request-requires-clause-floor
ask-request-requires-clause-floor c =
    let ready = c.requires.ready in
    may_ask c.args.who ready.1 (ready.2.are.lanes c.args.who c.lane-lane.result.now c.lane-lane.ensures.value) ready.3

pub returns-clause-carries : goal.returns-clause-carries
returns-clause-carries c = λ header lines now own is ready may.
    let old : Kept = kept header c.args.self.now in
    let who = c.args.who in
    let lane = c.lane-lane.result.now in
    let found = c.lane-lane.ensures.value in
    let on = are_on old lines now who (Ask c.args.reading) own is may ready.are in
    record {
      answer = refl;
      are = are_set who on found refl refl refl
          (read_lane who lines now c.args.reading own (ap own_reading is) (on.lanes who lane found)
          c.ask-request.ensures.own
          (ap (λ (x : companions.Companion). x.setup) c.ask-request.ensures.keeps)
          (omega (arith, c.ask-request.ensures.floors.0)) (omega (arith, c.ask-request.ensures.floors.1)));
      ends = at_line _ lines now who (Ask c.args.reading) own is
          (asked old lines now.number now.line.t now.line.w who now.line.l c.args.reading lane
          c.ask-request.new.self c.push.new.self.items c.push-2.new.self.items ready.ends c.requires.first
          c.requires.within found c.requires.range
          (rw c.ask-request.ensures.request at (c.ask-request.ensures.stands _ (history_of who header lines) peer
          (ready.ends.lanes who lane found).companion))
          (c.in_ok-push.ensures.items
          ∙ ap (λ (bytes : List ℕ). old.requests ++ bytes ∷ []) c.ask-request.ensures.request)
          c.in_ok-push-2.ensures.items);
    }

pub returns-in_err-push-clause-carries : goal.returns-in_err-push-clause-carries
returns-in_err-push-clause-carries c = λ header lines now own is ready may.
    wants _ _ c.from_residual.result lines now c.args.who (Ask c.args.reading) c.from_residual.ensures.1

pub returns-in_err-push-2-clause-carries : goal.returns-in_err-push-2-clause-carries
returns-in_err-push-2-clause-carries c = λ header lines now own is ready may.
    wants _ _ c.from_residual-in_err-push-2.result lines now c.args.who (Ask c.args.reading)
    c.from_residual-in_err-push-2.ensures.1

pub returns-in_err-push-clause-refused : goal.returns-in_err-push-clause-refused
returns-in_err-push-clause-refused c = refused_memory _ _ c.from_residual.result c.from_residual.ensures.1

pub returns-in_err-push-2-clause-refused : goal.returns-in_err-push-2-clause-refused
returns-in_err-push-2-clause-refused c =
    refused_memory _ _ c.from_residual-in_err-push-2.result c.from_residual-in_err-push-2.ensures.1
