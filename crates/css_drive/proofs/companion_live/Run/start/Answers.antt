use Rattle.std.proofs.Common.{refl, sym, ap, ◌∙◌, subst, ◌++◌, true, false}
use Rattle.css_model.specs.History.{Clock}
use Rattle.css_model.specs.declared.Why.TheVariants as why
use Rattle.css_outside.specs.Outsides.{sleep_entries}
use Rattle.css_outside.specs.declared.calls.Clocked.{Clocked}
use Rattle.css_drive.specs.Notes.{standpoint}
use Rattle.css_drive.specs.declared.companion_live.Live.{Live}
use Rattle.css_drive.proofs.CompanionSteps.{comes, failed}
use Rattle.css_drive.proofs.CompanionSteps as calls
use Rattle.css_drive.proofs.CompanionEnds as ends
use Rattle.css_drive.proofs.companion_live.Run.start.Goals as goal

pub returns-then-due-clause-goes : goal.returns-then-due-clause-goes
returns-then-due-clause-goes g c before started h s k d =
    let read = c.in_ok-clocked.ensures.told in
    let clocked : Clocked = c.in_ok-clocked.clocked in
    let cfg = c.args.config.now in
    let live = c.read.new.self.live.now in
    let known = read.known cfg.companion h k in
    let f = calls.read_facts s read in
    let due = sym c.reports_at-due.ensures ∙ c.if-due.true in
    let report = c.report-report.result in
    let so = ends.reports_so cfg _ _ clocked.reading report known (c.report-report.ensures.report _ known.stands) in
    comes (calls.stands_read s read d (subst (g.W.Observes.saw started c.reported.new.self)
    (sym (ends.begun_notes cfg _ live clocked.reading f true due _ (calls.slept_noted cfg h clocked.slept) report so))
    (rw (ap {A = Live} (λ x. x.reported) c.begin.ensures) at (c.reported.ensures (standpoint cfg h) known started _
    c.in_ok-clocked.ensures.on (c.in_ok-clocked.ensures.saw started _ s.saw_so))))
    (ends.begun_facts cfg (sleep_entries clocked.slept ++ h) live clocked.reading f true due c.begin.ensures))
    (calls.knows_plain (Clock why.Turn clocked.reading) known refl refl refl refl refl refl refl) _ refl

pub returns-clause-goes : goal.returns-clause-goes
returns-clause-goes g c before started h s k d =
    let read = c.in_ok-clocked.ensures.told in
    let clocked : Clocked = c.in_ok-clocked.clocked in
    let cfg = c.args.config.now in
    let live = c.read.new.self.live.now in
    let known = read.known cfg.companion h k in
    let f = calls.read_facts s read in
    let due = sym c.reports_at-due.ensures ∙ c.if-due.false in
    comes (calls.stands_read s read d (subst (g.W.Observes.saw started c.turned.new.self)
    (sym (ends.begun_notes cfg _ live clocked.reading f false due _ (calls.slept_noted cfg h clocked.slept) _ refl))
    (c.turned.ensures (standpoint cfg h) known started _ c.in_ok-clocked.ensures.on
    (c.in_ok-clocked.ensures.saw started _ s.saw_so)))
    (ends.begun_facts cfg (sleep_entries clocked.slept ++ h) live clocked.reading f false due c.begin.ensures))
    (calls.knows_plain (Clock why.Turn clocked.reading) known refl refl refl refl refl refl refl) _ refl

pub returns-in_err-clocked-clause-goes : goal.returns-in_err-clocked-clause-goes
returns-in_err-clocked-clause-goes g c before started h s k d =
    failed s _ _ k c.from_residual.ensures.1 c.in_err-clocked.ensures.told _
    (c.in_err-clocked.ensures.saw started _ s.saw_so)
