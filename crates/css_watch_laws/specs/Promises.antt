-- What is promised of the visits of a watch.
use Rattle.std.specs.Prelude.{◌≡◌, ◌≤◌, ◌≤ℤ◌, ◌<ℤ◌, ℕ, List, ◌∷◌, All, Contains, Some, IfSome}
use Rattle.css_agree.specs.Agreements.{CantBothBeTrue, IsTrueOf, IsTruthful}
use Rattle.css_carry.specs.CarriedReports.{carried_report}
use Rattle.css_companion.specs.Headline.{IsPromised}
use Rattle.css_companion.specs.Meanings.{assigned_after, timing_after}
use Rattle.css_companion.specs.Reports.{HasTickOf}
use Rattle.css_companion.specs.declared.report.Report.TheVariants as report
use Rattle.css_drive.specs.Notes.{Landed, noted}
use Rattle.css_model.specs.Explains.{IsLawful}
use Rattle.css_model.specs.History.{Clock, History, Took, accepted_answers, wall_answer}
use Rattle.css_model.specs.WallClock.{IsLocal, Local, lo, hi}
use Rattle.css_model.specs.World.{Errors, IsWorldFor, Reads, World}
use Rattle.css_model.specs.declared.Why.TheVariants as why
use Rattle.css_agree.specs.declared.agreed.Agreed.{Agreed}
use Rattle.css_span.specs.Frontiers.{Answers}
use Rattle.css_watch.specs.Progress.{progress_after}
use Rattle.css_watch.specs.Telling.{due_line, parting_by, report_line, told_of}
use Rattle.css_drive.specs.declared.parting.Parting.TheVariants as parting
use Rattle.css_watch.specs.declared.plan.Plan.{Plan}
use Rattle.css_watch.specs.declared.progress.Progress.{Progress}
use Rattle.css_watch_lines.specs.Lines.{Known}
use Rattle.css_watch_lines.specs.declared.known.Between.{Between}
use Rattle.css_watch_lines.specs.declared.known.Known.{Known as Ticking}

-- Whatever happened in a visit, its answers are those that its companion accepted since its last sleep.
abbrev pub AnswersAreAccepted : Type 0
AnswersAreAccepted = (plan : Plan) (start : Progress) (history : History)
    → (told_of plan start (noted plan.run history)).answers ≡ accepted_answers plan.run.companion.local history

-- Where a datagram that lands ends the visit by a disagreement, no world makes all answers truthful that are accepted
-- then.
abbrev pub DisagreementsAreFalse : Type 0
DisagreementsAreFalse = (plan : Plan) (progress : Progress) (history : History) (peer reading : ℕ) (bytes : List ℕ)
    → parting_by plan (Landed reading bytes) (Took peer bytes ∷ history) progress
    (accepted_answers plan.run.companion.local history) ≡ Some parting.Disagree
    → (errors : Errors) (world : World) (who sleeps i : ℕ)
    → IsWorldFor errors world who plan.run.companion.local
    → Reads world who i plan.run.companion.local.precision reading sleeps
    → All (IsTruthful errors world who plan.run.companion.local sleeps i)
    (accepted_answers plan.run.companion.local (Clock why.Land reading ∷ Took peer bytes ∷ history))
    → ⊥

-- Two of these answers whose spans share nothing at the reading, as the one lies wholly above the other. No world makes
-- both truthful.
pub record AreApart (own : Local) (reading : ℕ) (answers : Answers) (between : Between) : Type 0 where
  pub above_is : Contains answers between.above
  pub below_is : Contains answers between.below
  pub apart : hi own between.below reading <ℤ lo own between.above reading
  pub is_false : CantBothBeTrue own reading between.above between.below

-- Where a datagram that lands ends the visit by a disagreement, two such answers of those that are accepted then are
-- kept for the line of the visit's end.
abbrev pub TwoAreNamed : Type 0
TwoAreNamed = (plan : Plan) (progress : Progress) (history : History) (peer reading : ℕ) (bytes : List ℕ)
    → IsLocal plan.run.companion.local
    → parting_by plan (Landed reading bytes) (Took peer bytes ∷ history) progress
    (accepted_answers plan.run.companion.local history) ≡ Some parting.Disagree
    → (between : Between)
    × ((progress_after plan (Landed reading bytes) (Took peer bytes ∷ history) progress
    (accepted_answers plan.run.companion.local history)).between ≡ Some between)
    × AreApart plan.run.companion.local reading
    (accepted_answers plan.run.companion.local (Clock why.Land reading ∷ Took peer bytes ∷ history)) between

-- A line with ticks, at a reading after a lawful history, keeps the headline of the report with these ticks.
abbrev pub TicksKeepTheHeadline : Type 0
TicksKeepTheHeadline = (plan : Plan) (number reading : ℕ) (history : History) (progress : Progress)
    (said : Agreed) (told : Ticking)
    → IsLawful history → report_line plan number reading history progress said ≡ Known number reading told
    → IsPromised plan.run.companion.local plan.run.companion.selector history reading
    (report.Ticks told.ticks.lo told.ticks.hi)

-- A line with ticks can be carried on, whatever the visit is told later. In each world that keeps the oscillators'
-- errors and makes the report's answer truthful, the narrowest one that was accepted, the ticks then contain what the
-- last control timestamp assigns to the wall clock at the later reading, by the rate of the last state.
abbrev pub CarriedLinesAreTrue : Type 0
CarriedLinesAreTrue = (plan : Plan) (number reading later : ℕ) (history newer : History) (progress : Progress)
    (said : Agreed) (told : Ticking)
    → report_line plan number reading history progress said ≡ Known number reading told
    → (errors : Errors) (world : World) (who sleeps i : ℕ)
    → IsWorldFor errors world who plan.run.companion.local
    → Reads world who i plan.run.companion.local.precision later sleeps
    → IfSome (wall_answer plan.run.companion.local history reading)
    (IsTruthful errors world who plan.run.companion.local sleeps i)
    → HasTickOf (carried_report plan.run.companion.local reading told.error told.wall
    (timing_after plan.run.companion.selector newer) later)
    (assigned_after plan.run.companion.selector newer (world i).wall)

-- The two ends that a line with ticks tells as agreed contain the wall clock in each world that makes all answers
-- truthful that were accepted since the last sleep. They lie within the line's span of the wall clock.
abbrev pub AgreedIsTrue : Type 0
AgreedIsTrue = (plan : Plan) (number reading : ℕ) (history : History) (progress : Progress) (told : Ticking)
    → IsLocal plan.run.companion.local
    → due_line plan reading history progress (accepted_answers plan.run.companion.local history)
    ≡ Known number reading told
    → IsTrueOf plan.run.companion.local reading (accepted_answers plan.run.companion.local history) told.agreed
    × (told.wall.lo ≤ℤ told.agreed.lo) × (told.agreed.hi ≤ℤ told.wall.hi)

-- They can be carried on too, from the moment of the report to each later one before the companion's next sleep.
abbrev pub CarriedAgreedIsTrue : Type 0
CarriedAgreedIsTrue = (plan : Plan) (number reading later : ℕ) (history newer : History) (progress : Progress)
    (told : Ticking)
    → due_line plan reading history progress (accepted_answers plan.run.companion.local history)
    ≡ Known number reading told
    → (errors : Errors) (world : World) (who sleeps i j : ℕ)
    → IsWorldFor errors world who plan.run.companion.local → i ≤ j
    → Reads world who i plan.run.companion.local.precision reading sleeps
    → Reads world who j plan.run.companion.local.precision later sleeps
    → All (IsTruthful errors world who plan.run.companion.local sleeps i)
    (accepted_answers plan.run.companion.local history)
    → HasTickOf (carried_report plan.run.companion.local reading told.error told.agreed
    (timing_after plan.run.companion.selector newer) later)
    (assigned_after plan.run.companion.selector newer (world j).wall)
