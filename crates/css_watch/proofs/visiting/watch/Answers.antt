use Rattle.std.proofs.Common.{arith, ◌≡◌, ◌≤◌}
use Rattle.std.proofs.lemmas.Grind.{common_steps}
use Rattle.css_drive.specs.Visits.{most_visits}
use Rattle.css_watch.proofs.Visits as all
use Rattle.css_watch.proofs.visiting.watch.Goals as goal

pub visits-init : goal.visits-init
visits-init g c =
    record { so_far = all.so_far_first _ _ _ c.new-begun.ensures; dials = omega arith; few = omega arith }

pub visits-preserved : goal.visits-preserved
visits-preserved g c = record {
  so_far = all.so_far_next _ _ _ _ _ _ _ c.visits.invariant.so_far c.in-Next.ensures.makes;
  dials = omega (arith, c.visits.invariant.dials, c.in-Next.ensures.dials);
  few = grind (arith, common_steps, c.visits-test.true);
}

pub returns-in-Over-clause-watches : goal.returns-in-Over-clause-watches
returns-in-Over-clause-watches g c = (
  c.new-plan.result,
  c.new-plan.ensures,
  all.so_far_ends _ _ _ _ _ _ c.in-Over.watched c.visits.invariant.so_far c.in-Over.ensures.makes,
)

pub returns-in-Over-clause-net_faults : goal.returns-in-Over-clause-net_faults
returns-in-Over-clause-net_faults g c =
    all.so_far_faults _ _ _ _ _ _ c.in-Over.watched c.visits.invariant.so_far c.in-Over.ensures.makes

pub returns-in-Over-clause-write_faults : goal.returns-in-Over-clause-write_faults
returns-in-Over-clause-write_faults g c =
    all.so_far_writes _ _ _ _ _ _ c.in-Over.watched c.visits.invariant.so_far c.in-Over.ensures.makes

pub returns-in-Over-clause-dial_faults : goal.returns-in-Over-clause-dial_faults
returns-in-Over-clause-dial_faults g c =
    all.dials_on _ _ _ c.in-Over.watched c.visits.invariant.dials c.in-Over.ensures.dials

pub returns-clause-watches : goal.returns-clause-watches
returns-clause-watches g c =
    let few : c.visits.visits ≤ most_visits = c.visits.invariant.few in
    let most : c.visits.visits ≡ most_visits = grind (arith, common_steps, c.visits-test.false, few) in (
      c.new-plan.result,
      c.new-plan.ensures,
      all.so_far_most _ _ _ _ _ c.by_reports.result c.visits.invariant.so_far most c.by_reports.ensures,
    )

pub returns-clause-dial_faults : goal.returns-clause-dial_faults
returns-clause-dial_faults g c =
    all.reports_dials _ _ c.visits.begun c.by_reports.result c.by_reports.ensures c.visits.invariant.dials
