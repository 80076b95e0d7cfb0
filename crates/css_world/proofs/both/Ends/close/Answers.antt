-- A session closes at both ends.
use Rattle.css_world.proofs.Names.{owed, IsEvent, Close, WorldFault, events_of, peer_of, played}
use Rattle.css_world.proofs.Verbs.{WhenAttended}
use Rattle.std.specs.Prelude.{slice_set}
use Rattle.std.proofs.Common.{◌≡◌, ◌-◌, refl, sym, ap, subst, ◌∙◌, Some, None, Ok, Result, ℕ}
use Rattle.css_tv.specs.declared.event.TvEvent.TheVariants as event
use Rattle.css_world.specs.Lanes.{session_at, with_owed}
use Rattle.css_world.specs.Standing.{Kept, kept}
use Rattle.css_world.proofs.Carrying.{at_line}
use Rattle.css_world.proofs.Verbs.{wants, refuses-as, refuses-played, carried-when, can-close, cannot-close, WhenPlayed}
use Rattle.css_world.proofs.AtSessions.{stands_at, owes-nothing, closed_event, closes_at}
use Rattle.css_world.proofs.Owning.{few_set, within_played, few_numbers, are_on, are_attended, both_kept, refused_kept}
use Rattle.css_world.proofs.Owning.{refused_played, refused_memory}
use Rattle.css_world.proofs.both.Ends.close.Goals as goal

pub returns-in_err-close-clause-carries : goal.returns-in_err-close-clause-carries
returns-in_err-close-clause-carries c = λ header lines now own is ready may.
    let lane = c.lane-lane.result.now in
    refuses-as _ _ c.from_residual.result lines now c.args.who (Close c.args.kind) c.in_err-close.field-0.0
    c.from_residual.ensures.1
    (cannot-close header lines c.args.who c.args.kind (session_at c.args.kind lane) c.in_err-close.field-0.0
    (stands_at ready c.args.who c.args.kind c.lane-lane.ensures.value) c.in_err-close.ensures.session.1)

pub returns-in_err-close-clause-refused : goal.returns-in_err-close-clause-refused
returns-in_err-close-clause-refused c =
    refused_kept c.args.self.now _ c.from_residual.result
    (both_kept c.args.self.now _ c.args.who c.lane-lane.result.now c.close.new.self c.lane-lane.ensures.value
    c.close.ensures.rest.companion refl refl)

pub play-requires-clause-few : goal.play-requires-clause-few
play-requires-clause-few c = few_set c.args.who c.close.new.self c.requires.ready.2

pub play-requires-clause-addresses : goal.play-requires-clause-addresses
play-requires-clause-addresses c = c.requires.ready.2.are.addresses

pub peer_of-requires-clause-few : goal.peer_of-requires-clause-few
peer_of-requires-clause-few c = few_numbers c.args.who c.requires.ready.2 c.requires.within

pub lane-lane-requires-2-clause-within : goal.lane-lane-requires-2-clause-within
lane-lane-requires-2-clause-within c =
    within_played c.args.who c.close.new.self _ c.play.new.lanes.list.items c.requires.within c.play.ensures.lanes

pub returns-in_err-play-clause-carries : goal.returns-in_err-play-clause-carries
returns-in_err-play-clause-carries c = λ header lines now own is ready may.
    let lane = c.lane-lane.result.now in
    let who = c.args.who in
    let kind = c.args.kind in
    refuses-played _ _ c.from_residual-in_err-play.result lines now who (Close kind) (event.Closed c.peer_of.result)
    c.in_err-play.field-0.0 c.from_residual-in_err-play.ensures.1
    (can-close header lines who kind (session_at kind lane) (session_at kind c.close.new.self)
    (stands_at ready who kind c.lane-lane.ensures.value) c.in_ok-close.ensures.session)
    (ap (λ p. Some (event.Closed p)) (sym c.peer_of.ensures))
    (c.in_err-play.ensures.answer (events_of header lines) ready.ends.stage)

pub returns-in_err-play-clause-refused : goal.returns-in_err-play-clause-refused
returns-in_err-play-clause-refused c =
    refused_played c.args.self.now _ c.args.who c.lane-lane.result.now c.close.new.self
    c.from_residual-in_err-play.result c.in_err-play.field-0.0 c.from_residual-in_err-play.ensures.1
    c.lane-lane.ensures.value c.close.ensures.rest.companion c.play.ensures.lanes c.in_err-play.ensures.refused

pub attend-requires-clause-event : goal.attend-requires-clause-event
attend-requires-clause-event c = subst IsEvent (sym c.closed.ensures) (closed_event c.args.kind)

pub attend-requires-clause-taken : goal.attend-requires-clause-taken
attend-requires-clause-taken c = (
  None,
  ap (owed c.lane-lane-2.result.now.companion) c.closed.ensures
      ∙ owes-nothing c.args.kind c.lane-lane-2.result.now.companion,
)

pub returns-in_err-attend-clause-carries : goal.returns-in_err-attend-clause-carries
returns-in_err-attend-clause-carries c = λ header lines now own is ready may.
    wants _ _ c.from_residual-in_err-attend.result lines now c.args.who (Close c.args.kind)
    c.from_residual-in_err-attend.ensures.1

pub returns-in_err-attend-clause-refused : goal.returns-in_err-attend-clause-refused
returns-in_err-attend-clause-refused c =
    refused_memory _ _ c.from_residual-in_err-attend.result c.from_residual-in_err-attend.ensures.1

pub returns-clause-carries : goal.returns-clause-carries
returns-clause-carries c = λ header lines now own is ready may.
    let old : Kept = kept header c.args.self.now in
    let lane = c.lane-lane.result.now in
    let mid = c.lane-lane-2.result.now in
    let final = c.attend.new.self in
    let who = c.args.who in
    let kind = c.args.kind in
    let found = c.lane-lane.ensures.value in
    let ok : Result (Unit {0}) WorldFault = Ok tt in
    let can = can-close header lines who kind (session_at kind lane) (session_at kind c.close.new.self)
    (stands_at ready who kind found) c.in_ok-close.ensures.session in
    let plays = subst (λ (peer : ℕ). WhenPlayed (event.Closed peer) old.tv.tv c.play.new.tv
    (slice_set old.lanes (who - 1) c.close.new.self) c.play.new.lanes.list.items)
    c.peer_of.ensures c.in_ok-play.ensures.played in
    let done : played (events_of header lines) (Some (event.Closed (peer_of who kind))) ≡ ok =
    subst (λ (peer : ℕ). played (events_of header lines) (Some (event.Closed peer)) ≡ ok)
    c.peer_of.ensures (c.in_ok-play.ensures.answer (events_of header lines) ready.ends.stage) in
    record {
      answer = carried-when header lines who (Close kind) can ∙ done;
      are = are_attended who c.close.new.self final c.play.new.tv c.play.new.lanes.list.items
          (are_on old lines now who (Close kind) own is may ready.are) found c.close.ensures.rest.companion
          c.play.ensures.tv c.play.ensures.lanes c.lane-lane-2.ensures.value c.attend.ensures.client
          c.attend.ensures.setup refl refl refl;
      ends = at_line _ lines now who (Close kind) own is
          (closes_at old lines now.number now.line.t now.line.w who now.line.l kind lane c.close.new.self mid final
          c.play.new.tv c.play.new.lanes.list.items ready.accepted ready.ends c.requires.first c.requires.within found
          c.in_ok-close.ensures.session c.close.ensures.rest plays c.play.ensures.tv.0 c.play.ensures.lanes
          c.lane-lane-2.ensures.value
          (subst (λ e. WhenAttended e mid.companion final.companion) c.closed.ensures c.in_ok-attend.ensures.stands)
          c.attend.ensures.rest
          (c.in_ok-attend.ensures.ok.ts ∙ ap (λ r. with_owed r mid.ts)
          (ap (owed mid.companion) c.closed.ensures ∙ owes-nothing kind mid.companion)));
    }
