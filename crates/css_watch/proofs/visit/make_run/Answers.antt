use Rattle.std.proofs.Common.{◌∙◌, ap, rules}
use Rattle.css_watch.specs.Following.{HasRun, stage}
use Rattle.css_watch.specs.Progress.{fresh}
use Rattle.css_watch.proofs.visit.make_run.Goals as goal

pub returns-clause-run : goal.returns-clause-run
returns-clause-run g c =
    let run : HasRun c.args.plan.now c.args.begun (stage (g.O.Outside.told c.args.outside.now) (g.O.Outside.counts
    c.args.outside.now) (g.K.Sink.holds c.args.sink.now) (g.K.Sink.faults c.args.sink.now)) (stage (g.O.Outside.told
    c.drive_watching.new.outside) (g.O.Outside.counts c.drive_watching.new.outside) (g.K.Sink.holds
    c.drive_watching.new.watching.sink.now) (g.K.Sink.faults c.drive_watching.new.watching.sink.now))
    c.drive_watching.result.ended c.drive_watching.result.parting c.drive_watching.result.progress =
    c.drive_watching.ensures.run c.args.begun (c.fresh-progress.ensures ∙ ap fresh c.with_visit.ensures)
    in
    search rules
