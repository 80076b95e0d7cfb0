-- What the lines of reports with ticks tell.
use Rattle.std.proofs.Common.{◌≡◌, ap, subst, ℕ, Option, Some, None, Result, Ok, Err}
use Rattle.css_agree.specs.declared.agreed.Agreed.{Agreed}
use Rattle.css_companion.proofs.Headline as proved
use Rattle.css_companion.specs.Headline.{IsPromised}
use Rattle.css_companion.specs.declared.knowledge.Timing.{Timing}
use Rattle.css_companion.specs.declared.report.Cause.{Cause}
use Rattle.css_companion.specs.declared.report.Report.{Report}
use Rattle.css_companion.specs.declared.report.Report.TheVariants as report
use Rattle.css_drive.specs.CompanionReports.{report_at}
use Rattle.css_companion.specs.Meanings.{timing_after}
use Rattle.css_model.specs.History.{History, accepted_answers, wall_answer}
use Rattle.css_model.specs.WallClock.{Answer}
use Rattle.css_num.specs.Spans.{Interval}
use Rattle.css_span.specs.WallSpans.{wall_span}
use Rattle.css_watch.specs.Telling.{said_of, with_ticks}
use Rattle.css_watch.specs.declared.plan.Plan.{Plan}
use Rattle.css_watch.specs.declared.progress.Progress.{Progress}
use Rattle.css_watch_laws.specs.Promises.{TicksKeepTheHeadline}
use Rattle.css_watch_lines.specs.Lines.{Known}
use Rattle.css_watch_lines.specs.declared.known.Known.{Known as Ticking}
use Rattle.css_watch_lines.specs.declared.known.Ticks.{Ticks}

pub same_known : (n r m s : ℕ) (x y : Ticking) → Known n r x ≡ Known m s y → x ≡ y
same_known n r m s x y e = cc

-- a line with ticks has those that it was made of
ticks_with : (number reading : ℕ) (ticks : Ticks) (said : Agreed) (wall : Option Interval) (answer : Option Answer)
    (timing : Result Timing Cause) (told : Ticking)
    → with_ticks number reading ticks said wall answer timing ≡ Known number reading told → ticks ≡ told.ticks
ticks_with number reading ticks said (Some wall) (Some answer) (Ok timing) told e =
    ap (λ x. x.ticks) (same_known number reading number reading _ told e)
ticks_with number reading ticks said None answer timing told e = absurd (cc)
ticks_with number reading ticks said (Some wall) None timing told e = absurd (cc)
ticks_with number reading ticks said (Some wall) (Some answer) (Err cause) told e = absurd (cc)

reported : (plan : Plan) (number reading : ℕ) (history : History) (progress : Progress) (agreed : Agreed)
    (told : Ticking) (said : Report)
    → said_of plan number reading said history progress agreed ≡ Known number reading told
    → said ≡ report.Ticks told.ticks.lo told.ticks.hi
reported plan number reading history progress agreed told (report.None cause) e = absurd (cc)
reported plan number reading history progress agreed told (report.Ticks lo hi) e =
    ap (λ (x : Ticks). report.Ticks x.lo x.hi) (ticks_with number reading (record { lo = lo; hi = hi }) agreed
    (wall_span plan.run.companion.local reading (accepted_answers plan.run.companion.local history))
    (wall_answer plan.run.companion.local history reading) (timing_after plan.run.companion.selector history) told e)

pub ticks_kept : TicksKeepTheHeadline
ticks_kept plan number reading history progress agreed told lawful e =
    let P : Report → Type 0 = λ x. IsPromised plan.run.companion.local plan.run.companion.selector history reading x in
    subst P (reported plan number reading history progress agreed told (report_at plan.run history reading) e)
    (proved.headline plan.run.companion.local plan.run.companion.selector history reading lawful)
