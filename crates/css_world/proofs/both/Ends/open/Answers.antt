-- A session opens at both ends, and the companion writes its setup to a TS session.
use Rattle.std.specs.Prelude.{slice_set}
use Rattle.std.proofs.Common.{◌≡◌, ◌-◌, refl, sym, ap, ◌∙◌, Some, Ok, Result, ℕ, subst}
use Rattle.css_tv.specs.declared.event.TvEvent.TheVariants as event
use Rattle.css_world.specs.Lanes.{session_at}
use Rattle.css_world.specs.Standing.{Kept, kept}
use Rattle.css_world.proofs.Names.{Opening, WorldFault, events_of, peer_of, played}
use Rattle.css_world.proofs.Carrying.{at_line}
use Rattle.css_world.proofs.Verbs.{wants, refuses-as, refuses-played, carried-when, can-open, cannot-open, WhenPlayed}
use Rattle.css_world.proofs.AtSessions.{stands_at, no-session, opens_at}
use Rattle.css_world.proofs.Owning.{few_set, within_played, few_numbers, are_on, are_attended, both_kept, refused_kept}
use Rattle.css_world.proofs.Owning.{refused_played, refused_memory}
use Rattle.css_world.proofs.both.Ends.open.Goals as goal

pub returns-in_err-open-clause-carries : goal.returns-in_err-open-clause-carries
returns-in_err-open-clause-carries c = λ header lines now own is ready may.
    let lane = c.lane-lane.result.now in
    refuses-as _ _ c.from_residual.result lines now c.args.who (Opening c.args.kind) c.in_err-open.field-0.0
    c.from_residual.ensures.1
    (cannot-open header lines c.args.who c.args.kind (session_at c.args.kind lane) c.in_err-open.field-0.0
    (stands_at ready c.args.who c.args.kind c.lane-lane.ensures.value) c.in_err-open.ensures.session.1)

pub returns-in_err-open-clause-refused : goal.returns-in_err-open-clause-refused
returns-in_err-open-clause-refused c =
    refused_kept c.args.self.now _ c.from_residual.result
    (both_kept c.args.self.now _ c.args.who c.lane-lane.result.now c.open.new.self c.lane-lane.ensures.value
    c.open.ensures.rest.companion refl refl)

pub play-requires-clause-few : goal.play-requires-clause-few
play-requires-clause-few c = few_set c.args.who c.open.new.self c.requires.ready.2

pub play-requires-clause-addresses : goal.play-requires-clause-addresses
play-requires-clause-addresses c = c.requires.ready.2.are.addresses

pub play-requires-clause-event : goal.play-requires-clause-event
play-requires-clause-event c =
    let header = c.requires.ready.0 in
    let lines = c.requires.ready.1 in
    let ready = c.requires.ready.2 in
    let lane = c.lane-lane.result.now in
    let kind = c.args.kind in
    no-session (kept header c.args.self.now) lines 0 0 0 c.args.who 0 kind (session_at kind lane)
    (session_at kind c.open.new.self) c.peer_of.result c.requires.first ready.accepted ready.ends
    (stands_at ready c.args.who kind c.lane-lane.ensures.value) c.in_ok-open.ensures.session
    ready.are.addresses c.peer_of.ensures

pub peer_of-requires-clause-few : goal.peer_of-requires-clause-few
peer_of-requires-clause-few c = few_numbers c.args.who c.requires.ready.2 c.requires.within

pub lane-lane-requires-2-clause-within : goal.lane-lane-requires-2-clause-within
lane-lane-requires-2-clause-within c =
    within_played c.args.who c.open.new.self _ c.play.new.lanes.list.items c.requires.within c.play.ensures.lanes

pub returns-in_err-play-clause-carries : goal.returns-in_err-play-clause-carries
returns-in_err-play-clause-carries c = λ header lines now own is ready may.
    let lane = c.lane-lane.result.now in
    let who = c.args.who in
    let kind = c.args.kind in
    refuses-played _ _ c.from_residual-in_err-play.result lines now who (Opening kind)
    (event.Opened c.peer_of.result kind) c.in_err-play.field-0.0 c.from_residual-in_err-play.ensures.1
    (can-open header lines who kind (session_at kind lane) (session_at kind c.open.new.self)
    (stands_at ready who kind c.lane-lane.ensures.value) c.in_ok-open.ensures.session)
    (ap (λ p. Some (event.Opened p kind)) (sym c.peer_of.ensures))
    (c.in_err-play.ensures.answer (events_of header lines) ready.ends.stage)

pub returns-in_err-play-clause-refused : goal.returns-in_err-play-clause-refused
returns-in_err-play-clause-refused c =
    refused_played c.args.self.now _ c.args.who c.lane-lane.result.now c.open.new.self
    c.from_residual-in_err-play.result c.in_err-play.field-0.0 c.from_residual-in_err-play.ensures.1
    c.lane-lane.ensures.value c.open.ensures.rest.companion c.play.ensures.lanes c.in_err-play.ensures.refused

pub returns-in_err-greet-clause-carries : goal.returns-in_err-greet-clause-carries
returns-in_err-greet-clause-carries c = λ header lines now own is ready may.
    wants _ _ c.from_residual-in_err-greet.result lines now c.args.who (Opening c.args.kind)
    c.from_residual-in_err-greet.ensures.1

pub returns-in_err-greet-clause-refused : goal.returns-in_err-greet-clause-refused
returns-in_err-greet-clause-refused c =
    refused_memory _ _ c.from_residual-in_err-greet.result c.from_residual-in_err-greet.ensures.1

pub returns-clause-carries : goal.returns-clause-carries
returns-clause-carries c = λ header lines now own is ready may.
    let old : Kept = kept header c.args.self.now in
    let lane = c.lane-lane.result.now in
    let who = c.args.who in
    let kind = c.args.kind in
    let found = c.lane-lane.ensures.value in
    let ok : Result (Unit {0}) WorldFault = Ok tt in
    let can = can-open header lines who kind (session_at kind lane) (session_at kind c.open.new.self)
    (stands_at ready who kind found) c.in_ok-open.ensures.session in
    let plays = subst (λ (peer : ℕ). WhenPlayed (event.Opened peer kind) old.tv.tv c.play.new.tv
    (slice_set old.lanes (who - 1) c.open.new.self) c.play.new.lanes.list.items)
    c.peer_of.ensures c.in_ok-play.ensures.played in
    let done : played (events_of header lines) (Some (event.Opened (peer_of who kind) kind)) ≡ ok =
    subst (λ (peer : ℕ). played (events_of header lines) (Some (event.Opened peer kind)) ≡ ok)
    c.peer_of.ensures (c.in_ok-play.ensures.answer (events_of header lines) ready.ends.stage) in
    record {
      answer = carried-when header lines who (Opening kind) can ∙ done;
      are = are_attended who c.open.new.self c.greet.new.self c.play.new.tv c.play.new.lanes.list.items
          (are_on old lines now who (Opening kind) own is may ready.are) found c.open.ensures.rest.companion
          c.play.ensures.tv c.play.ensures.lanes c.lane-lane-2.ensures.value c.greet.ensures.client
          c.greet.ensures.setup refl refl refl;
      ends = at_line _ lines now who (Opening kind) own is
          (opens_at old lines now.number now.line.t now.line.w who now.line.l kind lane c.open.new.self
          c.lane-lane-2.result.now c.greet.new.self c.play.new.tv c.play.new.lanes.list.items ready.accepted ready.ends
          c.requires.first c.requires.within found c.in_ok-open.ensures.session c.open.ensures.rest plays
          c.play.ensures.tv.0 c.play.ensures.lanes c.lane-lane-2.ensures.value (ready.are.lanes who lane found).setup
          c.in_ok-greet.ensures.stands c.greet.ensures.rest c.in_ok-greet.ensures.ok);
    }
