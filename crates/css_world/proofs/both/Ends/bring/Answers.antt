-- A text of the television comes.
use Rattle.std.proofs.Common.{refl, sym, ap, subst, ◌∙◌, None}
use Rattle.css_world.specs.Lanes.{session_at, with_owed}
use Rattle.css_world.specs.Standing.{Kept, kept}
use Rattle.css_world.proofs.Names.{Companion, owed, IsEvent, Bring}
use Rattle.css_world.proofs.Carrying.{at_line}
use Rattle.css_world.proofs.Verbs.{wants, refuses-absent, carried-when, can-bring, cannot-bring}
use Rattle.css_world.proofs.AtSessions.{stands_at, owes-none, heard_event, brings}
use Rattle.css_world.proofs.Owning.{same_lane, are_on, are_set, both_kept, refused_memory}
use Rattle.css_world.proofs.both.Ends.bring.Goals as goal

pub returns-in_default-clause-carries : goal.returns-in_default-clause-carries
returns-in_default-clause-carries c = λ header lines now own is ready may.
    let lane = c.lane-lane.result.now in
    refuses-absent _ _ lines now c.args.who (Bring c.args.kind)
    (cannot-bring header lines c.args.who c.args.kind (session_at c.args.kind lane)
    (stands_at ready c.args.who c.args.kind c.lane-lane.ensures.value) (sym c.next_down.ensures.text ∙ c.in_default.is))

pub returns-in_default-clause-refused : goal.returns-in_default-clause-refused
returns-in_default-clause-refused c =
    both_kept c.args.self.now _ c.args.who c.lane-lane.result.now c.next_down.new.self c.lane-lane.ensures.value
    c.next_down.ensures.rest.companion refl refl

pub attend-requires-clause-event : goal.attend-requires-clause-event
attend-requires-clause-event c = subst IsEvent (sym c.heard.ensures) (heard_event c.args.kind c.in-Some.text)

pub attend-requires-clause-taken : goal.attend-requires-clause-taken
attend-requires-clause-taken c =
    let header = c.requires.ready.0 in
    let lines = c.requires.ready.1 in
    let ready = c.requires.ready.2 in
    let lane = c.lane-lane.result.now in
    let who = c.args.who in
    let kind = c.args.kind in
    let found = c.lane-lane.ensures.value in
    let can = can-bring header lines who kind (session_at kind lane) c.in-Some.text
    (stands_at ready who kind found) (sym c.next_down.ensures.text ∙ c.in-Some.is) in (
      None,
      ap (owed c.next_down.new.self.companion) c.heard.ensures
          ∙ owes-none (kept header c.args.self.now) lines 0 0 0 who 0 kind lane c.next_down.new.self c.in-Some.text
          c.requires.first ready.declared ready.accepted ready.ends found c.next_down.ensures.rest.companion can.1,
    )

pub returns-in_err-attend-clause-carries : goal.returns-in_err-attend-clause-carries
returns-in_err-attend-clause-carries c = λ header lines now own is ready may.
    wants _ _ c.from_residual.result lines now c.args.who (Bring c.args.kind) c.from_residual.ensures.1

pub returns-in_err-attend-clause-refused : goal.returns-in_err-attend-clause-refused
returns-in_err-attend-clause-refused c = refused_memory _ _ c.from_residual.result c.from_residual.ensures.1

pub returns-clause-carries : goal.returns-clause-carries
returns-clause-carries c = λ header lines now own is ready may.
    let old : Kept = kept header c.args.self.now in
    let lane = c.lane-lane.result.now in
    let between = c.next_down.new.self in
    let who = c.args.who in
    let kind = c.args.kind in
    let found = c.lane-lane.ensures.value in
    let first = sym c.next_down.ensures.text ∙ c.in-Some.is in
    let can = can-bring header lines who kind (session_at kind lane) c.in-Some.text (stands_at ready who kind found)
    first in
    let on = are_on old lines now who (Bring kind) own is may ready.are in
    record {
      answer = carried-when header lines who (Bring kind) can.2;
      are = are_set who on found refl refl refl (same_lane (on.lanes who lane found)
          (c.attend.ensures.client ∙ ap (λ (x : Companion). x.client) c.next_down.ensures.rest.companion)
          (c.attend.ensures.setup ∙ ap (λ (x : Companion). x.setup) c.next_down.ensures.rest.companion));
      ends = at_line _ lines now who (Bring kind) own is
          (brings old lines now.number now.line.t now.line.w who now.line.l kind c.in-Some.text lane
          between c.attend.new.self ready.accepted ready.ends c.requires.first c.requires.within found first
          c.next_down.ensures.after c.next_down.ensures.rest c.attend.ensures.rest
          (c.in_ok-attend.ensures.ok.ts ∙ ap (λ r. with_owed r between.ts)
          (ap (owed between.companion) c.heard.ensures
          ∙ owes-none old lines 0 0 0 who 0 kind lane between c.in-Some.text c.requires.first
          ready.declared ready.accepted ready.ends found c.next_down.ensures.rest.companion can.1))
          (rw c.heard.ensures at c.in_ok-attend.ensures.stands));
    }
