use Rattle.std.proofs.Common.{refl}
use Rattle.css_watch.proofs.Runs as runs
use Rattle.css_watch.proofs.visit.drive_watching.Goals as goal

pub drive-ended-requires-clause-begun : goal.drive-ended-requires-clause-begun
drive-ended-requires-clause-begun g c = (refl, refl, λ a. runs.tells_first _ _ _ _ _ _ _ _ c.requires.fresh.1)

pub returns-clause-sink_name : goal.returns-clause-sink_name
returns-clause-sink_name g c = c.drive-ended.ensures.made.saw_so.0

pub returns-clause-run : goal.returns-clause-run
returns-clause-run g c begun e =
    let made = c.drive-ended.ensures.made in
    record {
      history = made.history;
      run = runs.run_of c.args.watching.now.plan.now begun _ _ _ _ _ _ _ _ _ c.drive-ended.result e
          c.replace.ensures.value made made.saw_so.2 c.drive-ended.ensures.net_faults;
    }
