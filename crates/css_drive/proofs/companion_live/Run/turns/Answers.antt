use Rattle.std.proofs.Common.{◌≤◌, refl, sym, ◌∙◌, subst, ap, arith, true}
use Rattle.std.proofs.lemmas.Bool.{ltb-true, and_parts}
use Rattle.css_drive.specs.declared.companion_live.Live.{Live}
use Rattle.css_drive.specs.Ends.{CountsDialFaults}
use Rattle.css_drive.proofs.CompanionSteps.{comes}
use Rattle.css_drive.proofs.CompanionEnds as ends
use Rattle.css_drive.proofs.companion_live.Run.turns.Goals as goal

pub turns-init : goal.turns-init
turns-init g c = record {
  run = comes (ends.stands_first c.args.config.now _ _ c.args.self.now.live.now c.requires.fresh c.requires.begun)
      c.requires.known _ refl;
  names = record { outside = refl; observer = refl; companion = refl; live = refl };
  floor = c.requires.floor;
  dials = omega arith;
  tried = λ few begun. absurd (begun (sym (ap {A = Live} (λ x. x.first) c.requires.fresh)));
}

pub turns-preserved : goal.turns-preserved
turns-preserved g c =
    let i = c.turns.invariant in
    let d = ends.at_end i.run.stands i.run.next true (sym c.goes_again.ensures ∙ c.turns-test.true) in
    record {
      run = c.in-Ok.ensures.goes _ _ i.run.history i.run.stands i.run.known d;
      names = ends.names_on i.names c.turn.ensures.names;
      floor = c.in-Ok.ensures.floor;
      dials = omega (arith, c.turn.ensures.dials, i.dials);
      tried = c.in-Ok.ensures.tried _ i.dials i.tried;
    }

pub turn-requires : goal.turn-requires
turn-requires g c =
    let again = and_parts _ _ (sym c.goes_again.ensures ∙ c.turns-test.true) in
    record {
      floor = c.turns.invariant.floor;
      made = ends.below_most _ _ _ _ c.args.config.now.limit_range again.1;
      reported = ltb-true _ _ again.0;
      bounds = c.requires.bounds;
    }

pub returns-in-Err : goal.returns-in-Err
returns-in-Err g c =
    let cfg = c.args.config.now in
    let i = c.turns.invariant in
    let d = ends.at_end i.run.stands i.run.next true (sym c.goes_again.ensures ∙ c.turns-test.true) in
    let s = c.in-Err.ensures.goes _ _ i.run.history i.run.stands i.run.known d in
    let le : (g.O.Outside.counts c.args.self.now.outside.now).dial_faults
    ≤ (g.O.Outside.counts c.turn.new.self.outside.now).dial_faults = omega (arith, c.turn.ensures.dials, i.dials) in
    record {
      names = ends.names_on i.names c.turn.ensures.names;
      made = ends.made_of cfg _ _ _ _ _ _ c.ended_by.ensures s;
      net_faults = ends.counted_of cfg _ _ _ _ _ _ c.ended_by.ensures s;
      dial_faults =
          subst (CountsDialFaults _ _) (sym c.ended_by.ensures) (ends.final_dials _ _ _ _ (ends.early_dials _ _ _
          c.in-Err.ensures.early le) le);
    }

pub returns : goal.returns
returns g c =
    let cfg = c.args.config.now in
    let i = c.turns.invariant in
    let w = i.run in
    let over = sym c.goes_again.ensures ∙ c.turns-test.false in
    let s = c.hang_up-ended.ensures.stops _ _ _
    (ends.is_over w.stands w.next over w.known.stands.client.lawful c.ending-end.ensures) in
    let le : (g.O.Outside.counts c.args.self.now.outside.now).dial_faults
    ≤ (g.O.Outside.counts c.hang_up-ended.new.self.outside.now).dial_faults =
    omega (arith, i.dials, c.hang_up-ended.ensures.dials) in
    let hung = ends.hung_dials _ _ cfg.reports c.turns.self.live.now _ _ le (λ few none.
    ends.risen_within _ _ _ _ (omega arith) c.hang_up-ended.ensures.dials
    (i.tried few (ends.has_begun w.stands over few) none)) c.ending-end.ensures c.hang_up-ended.ensures.kind in
    record {
      names = ends.names_on i.names c.hang_up-ended.ensures.names;
      made = ends.made_of cfg _ _ _ _ _ _ c.ended_by-2.ensures s;
      net_faults = ends.counted_of cfg _ _ _ _ _ _ c.ended_by-2.ensures s;
      dial_faults =
          subst (CountsDialFaults _ _) (sym c.ended_by-2.ensures)
          (ends.final_dials (g.W.Observes.over c.hang_up-ended.new.self.observer.now) _ _ _ hung le);
    }
