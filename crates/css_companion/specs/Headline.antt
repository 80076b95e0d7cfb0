-- The promise of the whole project, of one report. It is said of a history, that is of what happened at a companion,
-- and of the worlds that it can have happened in. What a companion keeps isn't in it.
use Rattle.std.specs.Prelude.{ℕ, ◌≡◌, List, ◌∷◌, length}
use Rattle.css_model.specs.declared.Why.TheVariants as why
use Rattle.css_model.specs.WallClock.{Local}
use Rattle.css_model.specs.World.{World, Errors, IsWorldFor}
use Rattle.css_model.specs.History.{Clock, History}
use Rattle.css_model.specs.Explains.{Explains, IsLawful}
use Rattle.css_cii.specs.declared.state.State.{State}
use Rattle.css_companion.specs.Meanings.{state_of, report_after, assigned_after}
use Rattle.css_companion.specs.Published.{latest, TellsStates}
use Rattle.css_companion.specs.Reports.{HasTickOf, SaysNoMemory}
use Rattle.css_companion.specs.declared.report.Report.{Report}

-- Whatever datagrams were lost, repeated or reordered: in each world that keeps the declared errors of both oscillators
-- and explains the history, with the reading of the report at its end, the ticks contain the position that the last
-- control timestamp assigns to the television's wall clock at that reading.
abbrev pub ContainsThePosition : Local → List ℕ → History → ℕ → Report → Type 0
ContainsThePosition own selector history reading report =
    (errors : Errors) (world : World) (who : ℕ) (moment_of : ℕ → ℕ) → IsWorldFor errors world who own
    → Explains world who errors.tv own (Clock why.Turn reading ∷ history) moment_of
    → HasTickOf report (assigned_after selector history (world (moment_of (length history))).wall)

-- Once told, the state of the content is always one that the television published: the last one whose text came.
abbrev pub IsPublished : History → Type 0
IsPublished history = (states : List State) → TellsStates states history → state_of history ≡ latest states

-- What is promised of a report. Its ticks contain the position. They come from the narrowest accepted answer, and
-- without an answer or a usable control timestamp it is the cause, which is never want of memory. The state that was
-- told by then was published.
pub record IsPromised (own : Local) (selector : List ℕ) (history : History) (reading : ℕ) (report : Report)
    : Type 0 where
  pub contains : ContainsThePosition own selector history reading report
  pub narrowest : report ≡ report_after own selector history reading
  pub has_cause : SaysNoMemory report
  pub published : IsPublished history

-- The headline: of each lawful history and each reading, the report that is defined for them keeps the promise.
abbrev pub TheHeadline : Type 0
TheHeadline = (own : Local) (selector : List ℕ) (history : History) (reading : ℕ)
    → IsLawful history → IsPromised own selector history reading (report_after own selector history reading)
