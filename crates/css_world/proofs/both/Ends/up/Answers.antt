-- A text of the companion comes to the television.
use Rattle.css_world.proofs.Names.{Up, WorldFault, events_of, played, ts_of}
use Rattle.css_world.proofs.Verbs.{WhenPlayed}
use Rattle.std.proofs.Common.{◌≡◌, ◌-◌, refl, sym, ap, ◌∙◌, Some, slice_set, Ok, Result, ℕ, subst}
use Rattle.css_tv.specs.declared.event.TvEvent.TheVariants as event
use Rattle.css_world.specs.Flights.{first_in}
use Rattle.css_world.specs.Standing.{Kept, kept}
use Rattle.css_world.proofs.Carrying.{at_line}
use Rattle.css_world.proofs.Verbs.{refuses-absent, refuses-played, carried-when, can-raise, cannot-raise, up-event}
use Rattle.css_world.proofs.AtSessions.{raises}
use Rattle.css_world.proofs.Owning.{few_set, few_numbers, same_lane, are_on, are_set, are_played, both_kept}
use Rattle.css_world.proofs.Owning.{refused_played}
use Rattle.css_world.proofs.both.Ends.up.Goals as goal

pub returns-in_default-clause-carries : goal.returns-in_default-clause-carries
returns-in_default-clause-carries c = λ header lines now own is ready may.
    let lane = c.lane-lane.result.now in
    refuses-absent _ _ lines now c.args.who Up
    (cannot-raise header lines c.args.who lane.ts (ready.ends.lanes c.args.who lane c.lane-lane.ensures.value).ts
    (sym c.next_up.ensures.text ∙ c.in_default.is))

pub returns-in_default-clause-refused : goal.returns-in_default-clause-refused
returns-in_default-clause-refused c =
    let lane = c.lane-lane.result.now in
    both_kept c.args.self.now _ c.args.who lane (record lane { ts = c.next_up.new.self }) c.lane-lane.ensures.value refl
    refl refl

pub play-requires-clause-few : goal.play-requires-clause-few
play-requires-clause-few c =
    few_set c.args.who (record c.lane-lane.result.now { ts = c.next_up.new.self }) c.requires.ready.2

pub play-requires-clause-addresses : goal.play-requires-clause-addresses
play-requires-clause-addresses c = c.requires.ready.2.are.addresses

pub peer_of-requires-clause-few : goal.peer_of-requires-clause-few
peer_of-requires-clause-few c = few_numbers c.args.who c.requires.ready.2 c.requires.within

pub returns-in_err-play-clause-carries : goal.returns-in_err-play-clause-carries
returns-in_err-play-clause-carries c = λ header lines now own is ready may.
    let lane = c.lane-lane.result.now in
    let who = c.args.who in
    let can = can-raise header lines who lane.ts c.in-Some.text
    (ready.ends.lanes who lane c.lane-lane.ensures.value).ts (sym c.next_up.ensures.text ∙ c.in-Some.is) in
    refuses-played _ _ c.from_residual.result lines now who Up (event.Heard c.peer_of.result c.in-Some.text)
    c.in_err-play.field-0.0 c.from_residual.ensures.1 can.2
    (up-event header lines who c.in-Some.text can.1
    ∙ ap (λ p. Some (event.Heard p c.in-Some.text)) (sym c.peer_of.ensures))
    (c.in_err-play.ensures.answer (events_of header lines) ready.ends.stage)

pub returns-in_err-play-clause-refused : goal.returns-in_err-play-clause-refused
returns-in_err-play-clause-refused c =
    let lane = c.lane-lane.result.now in
    refused_played c.args.self.now _ c.args.who lane (record lane { ts = c.next_up.new.self }) c.from_residual.result
    c.in_err-play.field-0.0 c.from_residual.ensures.1 c.lane-lane.ensures.value refl c.play.ensures.lanes
    c.in_err-play.ensures.refused

pub returns-clause-carries : goal.returns-clause-carries
returns-clause-carries c = λ header lines now own is ready may.
    let old : Kept = kept header c.args.self.now in
    let lane = c.lane-lane.result.now in
    let who = c.args.who in
    let found = c.lane-lane.ensures.value in
    let ok : Result (Unit {0}) WorldFault = Ok tt in
    let text = c.in-Some.text in
    let after = record lane { ts = c.next_up.new.self } in
    let between : Kept = record old { lanes = slice_set old.lanes (who - 1) after } in
    let first : first_in lane.ts.phase lane.ts.up ≡ Some text = sym c.next_up.ensures.text ∙ c.in-Some.is in
    let can = can-raise header lines who lane.ts text (ready.ends.lanes who lane found).ts first in
    let plays = subst (λ (peer : ℕ). WhenPlayed (event.Heard peer text) old.tv.tv c.play.new.tv between.lanes
    c.play.new.lanes.list.items) c.peer_of.ensures c.in_ok-play.ensures.played in
    let done : played (events_of header lines) (Some (event.Heard (ts_of who) text)) ≡ ok =
    subst (λ (peer : ℕ). played (events_of header lines) (Some (event.Heard peer text)) ≡ ok) c.peer_of.ensures
    (c.in_ok-play.ensures.answer (events_of header lines) ready.ends.stage) in
    let on = are_on old lines now who Up own is may ready.are in
    record {
      answer = carried-when header lines who Up can.2
          ∙ ap (played (events_of header lines)) (up-event header lines who text can.1) ∙ done;
      are = are_played {old = between} (are_set who on found refl refl refl (same_lane (on.lanes who lane found) refl
          refl)) refl c.play.ensures.tv c.play.ensures.lanes;
      ends = at_line _ lines now who Up own is
          (raises old lines now.number now.line.t now.line.w who now.line.l text lane c.next_up.new.self c.play.new.tv
          c.play.new.lanes.list.items ready.ends c.requires.first c.requires.within found first c.next_up.ensures.after
          plays c.play.ensures.tv.0 c.play.ensures.lanes);
    }
