-- The companion writes a presentation.
use Rattle.std.proofs.Common.{◌≡◌, rules, refl, Some}
use Rattle.css_tsmsg.specs.Presentations.{presentation_text}
use Rattle.css_world.specs.declared.session.Phase.TheVariants as phases
use Rattle.css_world.specs.Standing.{Kept, kept}
use Rattle.css_world.proofs.Names.{window, Present}
use Rattle.css_world.proofs.Carrying.{at_line}
use Rattle.css_world.proofs.Verbs.{refuses-absent, wants, carried-when, can-present, cannot-present}
use Rattle.css_world.proofs.AtSessions.{presents}
use Rattle.css_world.proofs.Owning.{same_lane, are_on, are_set, both_kept, refused_memory}
use Rattle.css_world.proofs.both.Ends.present.Goals as goal

pub attend-requires-clause-taken : goal.attend-requires-clause-taken
attend-requires-clause-taken c = (Some (presentation_text (window c.args.earliest c.args.latest)), refl)

pub returns-clause-carries : goal.returns-clause-carries
returns-clause-carries c = λ header lines now own is ready may.
    let old : Kept = kept header c.args.self.now in
    let who = c.args.who in
    let lane = c.lane-lane.result.now in
    let found = c.lane-lane.ensures.value in
    let live : lane.ts.phase ≡ phases.Open = search rules in
    let can = can-present header lines who c.args.earliest c.args.latest lane.ts (ready.ends.lanes who lane found).ts
    live in
    let on = are_on old lines now who (Present c.args.earliest c.args.latest) own is may ready.are in
    record {
      answer = carried-when header lines who (Present c.args.earliest c.args.latest) can;
      are = are_set who on found refl refl refl
          (same_lane (on.lanes who lane found) c.attend.ensures.client c.attend.ensures.setup);
      ends = at_line _ lines now who (Present c.args.earliest c.args.latest) own is
          (presents old lines now.number now.line.t now.line.w who now.line.l c.args.earliest c.args.latest lane
          c.attend.new.self ready.ends c.requires.first c.requires.within found live
          c.in_ok-attend.ensures.ok.companion c.attend.ensures.rest c.in_ok-attend.ensures.ok.ts);
    }

pub returns-then-not-is_open-clause-carries : goal.returns-then-not-is_open-clause-carries
returns-then-not-is_open-clause-carries c = λ header lines now own is ready may.
    let lane = c.lane-lane.result.now in
    let who = c.args.who in
    let shut : lane.ts.phase ≡ phases.Open → ⊥ = search rules in
    refuses-absent _ _ lines now who (Present c.args.earliest c.args.latest)
    (cannot-present header lines who c.args.earliest c.args.latest lane.ts
    (ready.ends.lanes who lane c.lane-lane.ensures.value).ts shut)

pub returns-then-not-is_open-clause-refused : goal.returns-then-not-is_open-clause-refused
returns-then-not-is_open-clause-refused c =
    both_kept c.args.self.now _ c.args.who c.lane-lane.result.now c.lane-lane.result.now
    c.lane-lane.ensures.value refl refl refl

pub returns-in_err-attend-clause-carries : goal.returns-in_err-attend-clause-carries
returns-in_err-attend-clause-carries c = λ header lines now own is ready may.
    wants _ _ c.from_residual.result lines now c.args.who (Present c.args.earliest c.args.latest)
    c.from_residual.ensures.1

pub returns-in_err-attend-clause-refused : goal.returns-in_err-attend-clause-refused
returns-in_err-attend-clause-refused c = refused_memory _ _ c.from_residual.result c.from_residual.ensures.1
