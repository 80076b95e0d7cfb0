use Rattle.css_watch.proofs.Following as following
use Rattle.css_watch.proofs.Visits as all
use Rattle.css_watch.proofs.visit.visit.Goals as goal

pub returns-in-Err-clause-makes : goal.returns-in-Err-clause-makes
returns-in-Err-clause-makes g c = following.unbegun c.args.plan.now c.args.begun _

pub returns-clause-makes : goal.returns-clause-makes
returns-clause-makes g c = let run = c.make_run-run.ensures.run in c.after.ensures.makes c.args.plan.now c.args.begun _
    run.history run.run

pub returns-clause-dials : goal.returns-clause-dials
returns-clause-dials g c =
    all.visit_dials _ _ _ c.make_run-run.result.ended c.after.result c.make_run-run.ensures.dials c.after.ensures.dials
    c.after.ensures.by
