-- The visits of a watch, and what it comes to.
use Rattle.std.specs.Prelude.{◌≡◌, ◌≤◌, ◌⊎◌, ℕ, List, [], ◌∷◌, ◌++◌, length, Option, Some, None, Result}
use Rattle.std.specs.Prelude.{MatchResult}
use Rattle.std.specs.Prelude.{if◌then◌else◌, ⊤}
use Rattle.std.specs.Io.KnownBytes.{Appends}
use Rattle.css_model.specs.History.{Entry, History}
use Rattle.css_outside.specs.Bytes.{AppendsPrefix}
use Rattle.css_outside.specs.Faults.{HasRisen, HasRisenOnce, CountsCall}
use Rattle.css_outside.specs.Outsides.{with_entries}
use Rattle.css_outside.specs.declared.fault.OutFault.{OutFault}
use Rattle.css_outside.specs.declared.fault.OutFault.TheVariants as fault
use Rattle.css_drive.specs.CompanionDue.{due, IsProperRun}
use Rattle.css_drive.specs.CompanionReports.{KeepsPromises}
use Rattle.css_drive.specs.CompanionStanding.{hung}
use Rattle.css_drive.specs.Ends.{MayEnd}
use Rattle.css_drive.specs.Notes.{noted}
use Rattle.css_drive.specs.Visits.{AreFollowed, Visit, Visiting, begun_after, entries_of, last_entries, most_visits}
use Rattle.css_drive.specs.Visits.{why}
use Rattle.css_drive.specs.declared.driven.Driven.{Driven}
use Rattle.css_drive.specs.declared.driven.Driven.TheVariants as driven
use Rattle.css_watch_lines.specs.Fronts.{front_of}
use Rattle.css_watch_lines.specs.Lines.{Line, line_text, Ended, EndedBetween, EndedBy}
use Rattle.css_watch_lines.specs.declared.known.Between.{Between}
use Rattle.css_watch.specs.Progress.{fresh, nothing_begun, told_number, with_visit}
use Rattle.css_watch.specs.Telling.{Told, told_of, text_of}
use Rattle.css_watch.specs.declared.ending.Watched.{Watched}
use Rattle.css_watch.specs.declared.ending.Watched.TheVariants as watched
use Rattle.css_drive.specs.declared.parting.Parting.{Parting}
use Rattle.css_watch.specs.declared.plan.Plan.{Plan}
use Rattle.css_watch.specs.declared.progress.Begun.{Begun}
use Rattle.css_watch.specs.declared.progress.Progress.{Progress}

-- ---- how a watch ends
abbrev pub fault_of : OutFault → Watched
fault_of (fault.Failed failure) = watched.NetFault failure
fault_of fault.Memory = watched.Memory

abbrev pub unwritten : OutFault → Watched
unwritten (fault.Failed failure) = watched.WriteFault
unwritten fault.Memory = watched.Memory

abbrev pub by_reports : Begun → Watched
by_reports begun = if begun.found then watched.Done else watched.NoInterval begun.reports

-- after the last turn
abbrev pub last_end : Driven → Begun → Watched
last_end (driven.Unreachable turns) begun =
    if begun.reached then by_reports begun else watched.Unreachable turns
last_end _ begun = by_reports begun

-- where the run of the last visit ended so, and its observer perhaps ended it
abbrev pub end_of : Driven → Option Parting → Begun → Watched
end_of (driven.NetFault failure) parting begun = watched.NetFault failure
end_of driven.Memory parting begun = watched.Memory
end_of driven.WriteFault None begun = watched.WriteFault
end_of ended parting begun = last_end ended begun

-- ---- hang-ups
-- those of the sessions that are open, that of CSS-CII first
abbrev pub hang_ups : Progress → History
hang_ups progress = hung progress.ts_open ++ hung progress.cii_open

-- these entries are all of the wanted ones, or an older part of them
pub record IsOlderPart (entries wanted : History) : Type 0 where
  pub newer : History
  pub rest : newer ++ entries ≡ wanted

-- these entries are an older part of the wanted ones, without the newest of them
pub record IsShorterPart (entries wanted : History) : Type 0 where
  pub newest : Entry
  pub newer : History
  pub rest : newest ∷ (newer ++ entries) ≡ wanted

-- Calls added these entries: all that were to be made, or those before the one that failed.
pub record Hangs (before now : Option History) (was is : ℕ) (wanted : History) (result : Result (Unit {0}) OutFault)
    : Type 0 where
  pub entries : History
  pub told : now ≡ with_entries entries before
  pub all : MatchResult result (λ _. entries ≡ wanted) (λ _. IsShorterPart entries wanted)
  pub faults : CountsCall was is result

-- ---- visits
-- what a visit told that was begun after these
abbrev pub told_in : Plan → Begun → Visit → Told
told_in plan begun visit = told_of plan (fresh (with_visit begun)) (noted plan.run visit.history)

-- a visit ended, perhaps with two answers that contradict each other, or with this CII text
abbrev pub ended_with : ℕ → List ℕ → Option Between → Option (List ℕ) → Line
ended_with number words (Some between) unread = EndedBetween number words between
ended_with number words None (Some text) = EndedBy number words (front_of text)
ended_with number words None None = Ended number words

-- the line of a visit's end
abbrev pub end_line : Progress → List ℕ → Line
end_line progress words = ended_with (told_number progress.begun.visits) words progress.between progress.unread

abbrev pub end_text : Progress → Option (List ℕ) → List ℕ
end_text progress None = []
end_text progress (Some words) = line_text (end_line progress words)

-- what a visit writes: its lines, and where another one follows why it ended
abbrev pub visit_text : Plan → Begun → Visit → List ℕ
visit_text plan begun visit =
    let told = told_in plan begun visit in
    text_of told.lines ++ end_text told.progress (why visit.ended told.parting)

-- what a run ends as that its observer ends, or that lacks memory
abbrev pub IsBroken : Driven → Type 0
IsBroken driven.WriteFault = ⊤
IsBroken driven.Memory = ⊤
IsBroken _ = ⊥

-- the visit has no cause to end, or its run ended by it
abbrev pub EndsAtCause : Option Parting → Driven → Type 0
EndsAtCause None ended = ⊤
EndsAtCause (Some cause) ended = IsBroken ended

-- Each call of the run was due, and the run ended where it may; where there was a cause to end the visit, its observer
-- ended it. Each report that a turn may make keeps the promise.
pub record IsVisit (plan : Plan) (begun : Begun) (visit : Visit) : Type 0 where
  pub proper : IsProperRun plan.run visit.history
  pub ends : MayEnd (due plan.run visit.history) visit.ended
  pub promised : KeepsPromises plan.run visit.history
  pub at_cause : EndsAtCause (told_in plan begun visit).parting visit.ended

-- What visits are to a watch.
abbrev pub visits_of : Plan → Visiting Begun
visits_of plan = record {
  first = nothing_begun;
  is_visit = IsVisit plan;
  parting = λ begun visit. (told_in plan begun visit).parting;
  hang_ups = λ begun visit. hang_ups (told_in plan begun visit).progress;
  next = λ begun visit. (told_in plan begun visit).progress.begun;
}

abbrev pub written : Plan → List Visit → List ℕ
written plan [] = []
written plan (visit ∷ older) = written plan older ++ visit_text plan (begun_after (visits_of plan) older) visit

-- ---- the watch
-- a fault of a device, or want of memory
abbrev pub IsFault : Watched → Type 0
IsFault (watched.NetFault failure) = ⊤
IsFault watched.WriteFault = ⊤
IsFault watched.Memory = ⊤
IsFault _ = ⊥

-- the hang-ups that are due after a run that ended so: those of the open sessions, where its observer ended it or
-- another visit is to follow
abbrev pub hang_ups_after : Driven → Option Parting → Progress → History
hang_ups_after driven.WriteFault (Some cause) progress = hang_ups progress
hang_ups_after (driven.BadCii text reason) parting progress = hang_ups progress
hang_ups_after (driven.Moved property old new) parting progress = hang_ups progress
hang_ups_after (driven.BadUrl property) parting progress = hang_ups progress
hang_ups_after _ parting progress = []

-- a watch may end by this fault after a run that ended so: by the run's own, or by any where more was due after it
abbrev pub IsFaultAfter : Driven → Option Parting → Watched → Type 0
IsFaultAfter (driven.NetFault failure) parting result = result ≡ watched.NetFault failure
IsFaultAfter driven.Memory parting result = result ≡ watched.Memory
IsFaultAfter driven.WriteFault None result = result ≡ watched.WriteFault
IsFaultAfter driven.WriteFault (Some cause) result = IsFault result
IsFaultAfter (driven.BadCii text reason) parting result = IsFault result
IsFaultAfter (driven.Moved property old new) parting result = IsFault result
IsFaultAfter (driven.BadUrl property) parting result = IsFault result
IsFaultAfter _ parting result = ⊥

-- These hang-ups were made, of those that were due, where the watch ended by this fault: those before the one that
-- failed. None is made after a write that failed, and none is due after a run that a fault ended.
abbrev pub AreCut : Watched → History → History → Type 0
AreCut watched.WriteFault entries wanted = entries ≡ []
AreCut (watched.NetFault failure) entries wanted =
    ((entries ≡ []) × (wanted ≡ [])) ⊎ IsShorterPart entries wanted
AreCut _ entries wanted = IsOlderPart entries wanted

-- A device failed, or memory ran out. Of the hang-ups that were due after the run an older part was made.
pub record Fails (told : Told) (visit : Visit) (result : Watched) : Type 0 where
  pub fault : IsFaultAfter visit.ended told.parting result
  pub hangs : AreCut result visit.hung (hang_ups_after visit.ended told.parting told.progress)

-- No other visit follows, and all hang-ups that were due after the run were made.
pub record IsOver (told : Told) (visit : Visit) (result : Watched) : Type 0 where
  pub no_cause : why visit.ended told.parting ≡ None
  pub ends : result ≡ end_of visit.ended told.parting told.progress.begun
  pub hangs : visit.hung ≡ hang_ups_after visit.ended told.parting told.progress

-- The last visit: no other follows it, unless a device failed or memory ran out.
pub record IsLast (plan : Plan) (begun : Begun) (visit : Visit) (result : Watched) : Type 0 where
  pub visited : IsVisit plan begun visit
  pub ends : Fails (told_in plan begun visit) visit result ⊎ IsOver (told_in plan begun visit) visit result

-- What a sink holds after a watch that ended so, which wrote this: all of it, but where a write failed or memory ran
-- out.
abbrev pub HoldsAll : Option (List ℕ) → Option (List ℕ) → List ℕ → Watched → Type 0
HoldsAll held holds whole watched.WriteFault = AppendsPrefix held holds whole
HoldsAll held holds whole watched.Memory = AppendsPrefix held holds whole
HoldsAll held holds whole _ = Appends held holds whole

-- how a watch ends whose visits but for the last were followed by others: with the last, or after so many
abbrev pub IsEnd : Plan → List Visit → Option Visit → Watched → Type 0
IsEnd plan visits (Some last) result = IsLast plan (begun_after (visits_of plan) visits) last result
IsEnd plan visits None result =
    (length visits ≡ most_visits) × (result ≡ by_reports (begun_after (visits_of plan) visits))

abbrev pub last_text : Plan → Begun → Option Visit → List ℕ
last_text plan begun None = []
last_text plan begun (Some visit) = visit_text plan begun visit

-- A watch's calls since `before` are those of its visits, and the sink grew by what the visits write.
pub record Watches (plan : Plan) (before now : Option History) (held holds : Option (List ℕ)) (result : Watched)
    : Type 0 where
  pub visits : List Visit
  pub followed : AreFollowed (visits_of plan) visits
  pub last : Option Visit
  pub is_end : IsEnd plan visits last result
  pub told : now ≡ with_entries (last_entries last ++ entries_of visits) before
  pub wrote : HoldsAll held holds (written plan visits ++ last_text plan (begun_after (visits_of plan) visits) last)
      result

-- ---- counts
abbrev pub CountsNetFault : ℕ → ℕ → Watched → Type 0
CountsNetFault before now (watched.NetFault failure) = HasRisenOnce before now
CountsNetFault before now _ = now ≡ before

abbrev pub CountsWriteFault : ℕ → ℕ → Watched → Type 0
CountsWriteFault before now watched.WriteFault = HasRisenOnce before now
CountsWriteFault before now _ = now ≡ before

-- where no dial of CSS-CII succeeded, the count of failed dials has risen
abbrev pub CountsDialFaults : ℕ → ℕ → Watched → Type 0
CountsDialFaults before now (watched.Unreachable turns) = HasRisen before now
CountsDialFaults before now _ = before ≤ now
