-- How single visits come to a watch.
use Rattle.std.specs.Prelude.{◌≡◌, ◌⊎◌, ◌≤◌, ℕ, List, [], ◌++◌, length, Option, Some, None, ⊤}
use Rattle.std.specs.Io.KnownBytes.{Appends}
use Rattle.css_model.specs.History.{History}
use Rattle.css_outside.specs.Bytes.{AppendsPrefix}
use Rattle.css_outside.specs.Faults.{HasRisenOnce}
use Rattle.css_outside.specs.Outsides.{Counts, with_entries}
use Rattle.css_drive.specs.Ends as drive
use Rattle.css_drive.specs.Notes.{noted}
use Rattle.css_drive.specs.declared.driven.Driven.{Driven}
use Rattle.css_drive.specs.declared.driven.Driven.TheVariants as driven
use Rattle.css_watch_lines.specs.Lines.{line_text}
use Rattle.css_watch.specs.Progress.{fresh, with_visit}
use Rattle.css_watch.specs.Telling.{Told, told_of, text_of}
use Rattle.css_drive.specs.Visits.{AreFollowed, IsFollowed, Visit, begun_after, entries_of}
use Rattle.css_watch.specs.Visits.{IsVisit, IsLast, IsFault, HoldsAll, told_in, visit_text, hang_ups, visits_of}
use Rattle.css_watch.specs.Visits.{AreCut, end_line}
use Rattle.css_watch.specs.Visits.{CountsDialFaults, CountsNetFault, CountsWriteFault, written}
use Rattle.css_watch.specs.declared.ending.Watched.{Watched}
use Rattle.css_watch.specs.declared.ending.Watched.TheVariants as watched
use Rattle.css_drive.specs.declared.parting.Parting.{Parting}
use Rattle.css_watch.specs.declared.plan.Plan.{Plan}
use Rattle.css_watch.specs.declared.progress.Begun.{Begun}
use Rattle.css_watch.specs.declared.progress.Progress.{Progress}
use Rattle.css_watch.specs.declared.visit.Visited.{Visited}
use Rattle.css_watch.specs.declared.visit.Visited.TheVariants as visited

-- what the devices hold and count
pub record Stage : Type 0 where
  pub told : Option History
  pub faults : ℕ
  pub holds : Option (List ℕ)
  pub writes : ℕ

abbrev pub stage : Option History → Counts → Option (List ℕ) → ℕ → Stage
stage told counts holds writes = record { told = told; faults = counts.faults; holds = holds; writes = writes }

-- ---- the run of a visit
-- all lines are written, and nothing ended the visit but perhaps this
pub record IsWhole (told : Told) (parting : Option Parting) (progress : Progress) (held holds : Option (List ℕ))
    : Type 0 where
  pub progress_so : progress ≡ told.progress
  pub parting_so : told.parting ≡ parting
  pub wrote : Appends held holds (text_of told.lines)

-- what an observer saw of a run that ended so, where it ended it itself
abbrev pub Saw : Told → Option Parting → Driven → Progress → Option (List ℕ) → Option (List ℕ) → Type 0
Saw told (Some why) ended progress held holds =
    (ended ≡ driven.WriteFault) × IsWhole told (Some why) progress held holds
Saw told None driven.WriteFault progress held holds = AppendsPrefix held holds (text_of told.lines)
Saw told None driven.Memory progress held holds = AppendsPrefix held holds (text_of told.lines)
Saw told None ended progress held holds = IsWhole told None progress held holds

-- the sink's faults are counted where the observer couldn't write
abbrev pub CountsWrites : Option Parting → Driven → ℕ → ℕ → Type 0
CountsWrites None driven.WriteFault before now = HasRisenOnce before now
CountsWrites _ _ before now = now ≡ before

-- the run of a visit since `start`
pub record IsRun (plan : Plan) (begun : Begun) (start now : Stage) (history : History) (ended : Driven)
    (parting : Option Parting) (progress : Progress) : Type 0 where
  pub visited : IsVisit plan begun (record { history = history; hung = []; ended = ended })
  pub told : now.told ≡ with_entries history start.told
  pub saw : Saw (told_of plan (fresh (with_visit begun)) (noted plan.run history)) parting ended progress start.holds
      now.holds
  pub faults : drive.CountsNetFault start.faults now.faults ended
  pub writes : CountsWrites parting ended start.writes now.writes

-- the run was made, by some calls
pub record HasRun (plan : Plan) (begun : Begun) (start now : Stage) (ended : Driven) (parting : Option Parting)
    (progress : Progress) : Type 0 where
  pub history : History
  pub run : IsRun plan begun start now history ended parting progress

-- ---- what follows a run
-- the sink didn't fail
abbrev pub IsQuiet : Watched → Type 0
IsQuiet watched.WriteFault = ⊥
IsQuiet _ = ⊤

-- the visit's end was told, the open sessions were hung up, and another visit follows
pub record GoesOn (progress : Progress) (words : List ℕ) (start now : Stage) (next : Begun) : Type 0 where
  pub next_so : next ≡ progress.begun
  pub told : now.told ≡ with_entries (hang_ups progress) start.told
  pub faults : now.faults ≡ start.faults
  pub wrote : Appends start.holds now.holds (line_text (end_line progress words))
  pub writes : now.writes ≡ start.writes

-- a fault came between
pub record BreaksOff (progress : Progress) (words : List ℕ) (start now : Stage) (result : Watched) : Type 0 where
  pub fault : IsFault result
  pub entries : History
  pub told : now.told ≡ with_entries entries start.told
  pub hangs : AreCut result entries (hang_ups progress)
  pub faults : CountsNetFault start.faults now.faults result
  pub wrote : HoldsAll start.holds now.holds (line_text (end_line progress words)) result
  pub writes : CountsWriteFault start.writes now.writes result

abbrev pub Parts : Progress → List ℕ → Stage → Stage → Visited → Type 0
Parts progress words start now (visited.Next next) = GoesOn progress words start now next
Parts progress words start now (visited.Over result) = BreaksOff progress words start now result

-- the open sessions were hung up, and the watch ends so, or by a fault
pub record LeavesAll (progress : Progress) (end : Watched) (before now : Option History) (was is : ℕ)
    (result : Watched) : Type 0 where
  pub entries : History
  pub told : now ≡ with_entries entries before
  pub ends : (IsFault result × CountsNetFault was is result × IsQuiet result
      × AreCut result entries (hang_ups progress))
      ⊎ ((result ≡ end) × (is ≡ was) × (entries ≡ hang_ups progress))

-- They are hung up where the observer ended the last visit. A run that ended by itself left nothing to be done.
abbrev pub Leaves : Option Parting → Progress → Watched → Option History → Option History → ℕ → ℕ → Watched → Type 0
Leaves None progress end before now was is result = (result ≡ end) × (now ≡ before) × (is ≡ was)
Leaves (Some why) progress end before now was is result = LeavesAll progress end before now was is result

-- ---- a visit
pub record Follows (plan : Plan) (begun : Begun) (start now : Stage) (next : Begun) : Type 0 where
  pub visit : Visit
  pub is_followed : IsFollowed (visits_of plan) begun visit
  pub next_so : next ≡ (told_in plan begun visit).progress.begun
  pub told : now.told ≡ with_entries (visit.hung ++ visit.history) start.told
  pub wrote : Appends start.holds now.holds (visit_text plan begun visit)
  pub faults : now.faults ≡ start.faults
  pub writes : now.writes ≡ start.writes

pub record Ends (plan : Plan) (begun : Begun) (start now : Stage) (result : Watched) : Type 0 where
  pub visit : Visit
  pub is_last : IsLast plan begun visit result
  pub told : now.told ≡ with_entries (visit.hung ++ visit.history) start.told
  pub wrote : HoldsAll start.holds now.holds (visit_text plan begun visit) result
  pub faults : CountsNetFault start.faults now.faults result
  pub writes : CountsWriteFault start.writes now.writes result

abbrev pub Makes : Plan → Begun → Stage → Stage → Visited → Type 0
Makes plan begun start now (visited.Next next) = Follows plan begun start now next
Makes plan begun start now (visited.Over result) = Ends plan begun start now result

-- ---- failed dials
-- a watch ends as unreachable only where its last run did
abbrev pub IsUnreachableBy : Driven → Watched → Type 0
IsUnreachableBy ended (watched.Unreachable turns) = ended ≡ driven.Unreachable turns
IsUnreachableBy ended _ = ⊤

abbrev pub EndsBy : Driven → Visited → Type 0
EndsBy ended (visited.Next next) = ⊤
EndsBy ended (visited.Over result) = IsUnreachableBy ended result

-- the count of failed dials never falls, and has risen where the watch ends as unreachable
abbrev pub CountsDials : ℕ → ℕ → Visited → Type 0
CountsDials before now (visited.Next next) = before ≤ now
CountsDials before now (visited.Over result) = CountsDialFaults before now result

-- ---- all visits so far
-- Each of them is followed by another one, which comes next.
pub record SoFar (plan : Plan) (begun : Begun) (start now : Stage) (count : ℕ) : Type 0 where
  pub visits : List Visit
  pub followed : AreFollowed (visits_of plan) visits
  pub begun_so : begun ≡ begun_after (visits_of plan) visits
  pub told : now.told ≡ with_entries (entries_of visits) start.told
  pub wrote : Appends start.holds now.holds (written plan visits)
  pub faults : now.faults ≡ start.faults
  pub writes : now.writes ≡ start.writes
  pub counted : length visits ≡ count
