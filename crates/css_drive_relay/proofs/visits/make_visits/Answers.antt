use Rattle.std.proofs.Common.{◌≡◌, ◌≤◌, arith, refl, sym, subst}
use Rattle.std.proofs.lemmas.Grind.{common_steps}
use Rattle.css_drive.specs.Visits.{most_visits}
use Rattle.css_drive_relay.specs.Staying.{HasTurns}
use Rattle.css_drive_relay.specs.declared.begun.Begun.{Begun}
use Rattle.css_drive_relay.proofs.Staying as staying
use Rattle.css_drive_relay.proofs.visits.make_visits.Goals as goal

pub visits-init : goal.visits-init
visits-init g c = record {
  so_far = staying.so_far_first _ _ _ c.requires.fresh;
  same = refl;
  turns = subst HasTurns (sym c.requires.fresh) tt;
  tried = λ some.
      let none : 1 ≤ 0 = subst (λ (x : Begun). 1 ≤ x.turns) c.requires.fresh some in absurd (omega (arith, none));
  dials = omega arith;
  few = omega arith;
}

pub visits-preserved : goal.visits-preserved
visits-preserved g c =
    let i = c.visits.invariant in
    record {
      so_far = staying.so_far_next i.so_far c.in-Next.ensures.makes;
      same = i.same;
      turns = c.in-Next.ensures.begun;
      tried = c.in-Next.ensures.tried (g.O.Outside.counts c.args.outside.now) i.dials i.tried;
      dials = omega (arith, i.dials, c.in-Next.ensures.dials);
      few = grind (arith, common_steps, c.visits-test.true);
    }

pub returns-in-Over-clause-visits : goal.returns-in-Over-clause-visits
returns-in-Over-clause-visits g c =
    rw (← c.visits.invariant.same) (staying.so_far_ends c.visits.invariant.so_far c.in-Over.ensures.makes)

pub returns-in-Over-clause-dials : goal.returns-in-Over-clause-dials
returns-in-Over-clause-dials g c =
    let i = c.visits.invariant in
    let le = c.in-Over.ensures.dials in
    staying.last_dials (g.O.Outside.counts c.args.outside.now) (g.O.Outside.counts c.visit.new.outside) _
    (omega (arith, i.dials, le))
    (c.in-Over.ensures.tried (g.O.Outside.counts c.args.outside.now) i.dials i.tried)

pub returns-clause-visits : goal.returns-clause-visits
returns-clause-visits g c =
    let few : c.visits.visits ≤ most_visits = c.visits.invariant.few in
    let most : c.visits.visits ≡ most_visits = grind (arith, common_steps, c.visits-test.false, few) in
    rw (← c.visits.invariant.same) (staying.so_far_most c.visits.invariant.so_far most)
