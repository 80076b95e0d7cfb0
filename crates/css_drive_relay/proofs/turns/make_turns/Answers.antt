use Rattle.std.proofs.Common.{◌∙◌, subst, sym, arith, refl, inl, inr}
use Rattle.std.proofs.lemmas.Bool.{and_parts}
use Rattle.css_drive.proofs.CompanionEnds.{below_most}
use Rattle.css_drive.specs.CompanionStanding.{IsEarly}
use Rattle.css_drive_relay.proofs.Steps as steps
use Rattle.css_drive_relay.specs.Standing.{facts_in}
use Rattle.css_drive_relay.proofs.turns.make_turns.Goals as goal

pub turns-init : goal.turns-init
turns-init g c = record {
  goes = λ start h s. (h, s);
  floor = c.requires.floor;
  dials = omega arith;
  tried = λ before le tried. tried;
  begun = c.requires.begun;
  whole = inl c.requires.whole;
}

pub turns-preserved : goal.turns-preserved
turns-preserved g c =
    let i = c.turns.invariant in
    record {
      goes = λ start h s.
          let x = i.goes start h s in
          c.in_default.ensures.goes (sym c.has_turn.ensures ∙ c.turns-test.true) start x.0 x.1;
      floor = c.in_default.ensures.floor;
      dials = omega (arith, c.turn.ensures.dials, i.dials);
      tried = λ before le tried.
          c.in_default.ensures.tried before (omega (arith, le, i.dials)) (i.tried before le tried);
      begun = c.in_default.ensures.begun;
      whole = inr (omega (arith, c.in_default.ensures.made));
    }

pub turn-requires-clause-few : goal.turn-requires-clause-few
turn-requires-clause-few g c =
    below_most _ _ _ _ c.args.plan.now.run.limit_range
    (and_parts _ _ (sym c.has_turn.ensures ∙ c.turns-test.true)).1

pub returns-in-Err-clause-tried : goal.returns-in-Err-clause-tried
returns-in-Err-clause-tried g c before le tried =
    let i = c.turns.invariant in
    c.in-Err.ensures.tried before (omega (arith, le, i.dials)) (i.tried before le tried)

pub returns-in-Err-clause-unreachable : goal.returns-in-Err-clause-unreachable
returns-in-Err-clause-unreachable g c turns e = absurd (subst IsEarly e c.in-Err.ensures.early)

pub returns-clause-ends : goal.returns-clause-ends
returns-clause-ends g c start h s =
    let x = c.turns.invariant.goes start h s in
    steps.over x.1 (sym c.has_turn.ensures ∙ c.turns-test.false) _
    (c.ending.ensures (facts_in c.turns.live) refl refl)

pub returns-clause-tried : goal.returns-clause-tried
returns-clause-tried g c before le tried = inr (c.turns.invariant.tried before le tried)

pub returns-clause-unreachable : goal.returns-clause-unreachable
returns-clause-unreachable g c turns e =
    let i = c.turns.invariant in
    let x = steps.unreached c.args.plan.now (facts_in c.turns.live) turns
    (sym e ∙ c.ending.ensures (facts_in c.turns.live) refl refl) in (
      steps.some_made c.args.plan.now (facts_in c.turns.live) i.begun i.whole
          (sym c.has_turn.ensures ∙ c.turns-test.false),
      x.0,
      x.1,
    )
