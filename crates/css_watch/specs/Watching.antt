-- How the variables of a visit's observer stand for what it was told.
use Rattle.std.specs.Prelude.{◌≡◌, ℕ, List, [], ◌∷◌, Bool, true, false, Option, Some, None, Result, Ok, Err, ⊤, pos}
use Rattle.std.specs.Prelude.{◌+◌, ◌==◌, if◌then◌else◌, int_lt, is_some, position, take}
use Rattle.std.specs.Io.KnownBytes.{Appends}
use Rattle.css_model.specs.WallClock.{Answer, Local, scaled_width}
use Rattle.css_client.specs.Landings.{with_judged}
use Rattle.css_client.specs.declared.landing.Landing.{Landing}
use Rattle.css_outside.specs.Bytes.{AppendsPrefix}
use Rattle.css_outside.specs.Faults.{CountsOutFault}
use Rattle.css_model.specs.declared.Failure.TheVariants as failure
use Rattle.css_outside.specs.declared.fault.OutFault.{OutFault}
use Rattle.css_outside.specs.declared.fault.OutFault.TheVariants as fault
use Rattle.css_agree.specs.Keeping.{Kept, StandsFor}
use Rattle.css_model.specs.History.{History}
use Rattle.css_drive.specs.Notes.{Event, Note, Happened, Reported}
use Rattle.css_drive.specs.declared.config.DriveConfig.{DriveConfig}
use Rattle.css_span.specs.Frontiers.{Answers}
use Rattle.css_watch.specs.Progress.{fresh, after_sleep, between_at, progress_after}
use Rattle.css_watch.specs.Telling as telling
use Rattle.css_watch.specs.Telling.{Told, told_of, text_of, lines_by, answers_after, parting_at}
use Rattle.css_drive.specs.declared.parting.Parting.{Parting}
use Rattle.css_drive.specs.declared.parting.Parting.TheVariants as parting
use Rattle.css_watch_lines.specs.declared.known.Between.{Between}
use Rattle.css_watch.specs.declared.plan.Plan.{Plan}
use Rattle.css_watch.specs.declared.progress.Begun.{Begun}
use Rattle.css_watch.specs.declared.progress.Progress.{Progress}

-- ---- notes
-- each note is of a run with this configuration
abbrev pub AreFrom : DriveConfig → List Note → Type 0
AreFrom config [] = Unit {0}
AreFrom config (Happened from event ∷ older) = (from.config ≡ config) × AreFrom config older
AreFrom config (Reported from number report ∷ older) = (from.config ≡ config) × AreFrom config older

-- ---- writes
-- the first line of bytes, with its line feed, or all of them where there is none
abbrev pub line_to : Option ℕ → List ℕ → List ℕ
line_to None bytes = bytes
line_to (Some end) bytes = take (end + 1) bytes

abbrev pub front_line : List ℕ → List ℕ
front_line bytes = line_to (position (λ byte. byte == 10) bytes) bytes

-- these bytes were written, or a part of them where a write failed or memory ran out; the sink's faults are counted
abbrev pub Writes : Option OutFault → Option (List ℕ) → Option (List ℕ) → ℕ → ℕ → List ℕ → Type 0
Writes None held holds before now bytes = Appends held holds bytes × (now ≡ before)
Writes (Some cause) held holds before now bytes = AppendsPrefix held holds bytes × CountsOutFault before now cause

-- why the observer is over: a fault, or else the visit's end
abbrev pub over_by : Option OutFault → Option Parting → Option OutFault
over_by (Some cause) parting = Some cause
over_by None None = None
over_by None (Some why) = Some (fault.Failed failure.Other)

-- the visit's end, where there was no fault
abbrev pub parting_by : Option OutFault → Option Parting → Option Parting
parting_by (Some cause) parting = None
parting_by None parting = parting

-- ---- agreements
-- it is that of no answers, by the plan's clock
pub record IsFreshOf (plan : Plan) (agree : Kept) : Type 0 where
  pub local : agree.local ≡ plan.run.companion.local
  pub stands : StandsFor agree []

-- what an observer begins with
pub record IsFresh (plan : Plan) (begun : Begun) (progress : Progress) (agree : Kept) (over : Option OutFault)
    (parting : Option Parting) : Type 0 where
  pub progress_so : progress ≡ fresh begun
  pub agree_so : IsFreshOf plan agree
  pub over_so : over ≡ None
  pub parting_so : parting ≡ None

-- the agreement is that of the answers
pub record IsOf (plan : Plan) (agree : Kept) (answers : Answers) : Type 0 where
  pub local : agree.local ≡ plan.run.companion.local
  pub stands : StandsFor agree answers

-- the answer that a datagram tells is possible at its landing
abbrev pub IsPossibleAt : Local → ℕ → Result Answer Landing → Type 0
IsPossibleAt own reading (Ok answer) = int_lt (scaled_width own answer reading) (pos 0) ≡ false
IsPossibleAt own reading (Err refusal) = ⊤

-- the visit ends where two answers contradict each other
abbrev pub parted_by : Option Between → Option Parting
parted_by between = if is_some between then Some parting.Disagree else None

-- the answer was added, and two are named where it contradicts the others: then the visit ends
pub record Accepts (own : Local) (reading : ℕ) (judged : Result Answer Landing) (answers : Answers) (new : Kept)
    (between : Option Between) : Type 0 where
  pub local : new.local ≡ own
  pub stands : StandsFor new (with_judged judged answers)
  pub between_so : between ≡ between_at own reading judged answers
  pub parting_so : parted_by between ≡ parting_at own reading judged answers

-- after a reading that may have told a sleep
abbrev pub Wakes : Plan → Bool → Progress → Progress → Kept → Kept → Type 0
Wakes plan true was is old new = (is ≡ after_sleep was) × IsFreshOf plan new
Wakes plan false was is old new = (is ≡ was) × (new ≡ old)

-- ---- steps
-- Bytes were said, after which the visit may end so. A fault ends it in any case.
pub record Says (over : Option OutFault) (parting wanted : Option Parting) (held holds : Option (List ℕ))
    (before now : ℕ) (bytes : List ℕ) : Type 0 where
  pub cause : Option OutFault
  pub over_so : over ≡ over_by cause wanted
  pub parting_so : parting ≡ parting_by cause wanted
  pub wrote : Writes cause held holds before now bytes

-- An observer took an event in, of a history, where these answers were accepted before.
pub record IsStep (plan : Plan) (event : Event) (history : History) (answers : Answers) (was is : Progress) (new : Kept)
    (over : Option OutFault) (parting : Option Parting) (held holds : Option (List ℕ)) (before now : ℕ) : Type 0 where
  pub says : Says over parting (telling.parting_by plan event history was answers) held holds before now
      (text_of (lines_by plan event history was answers))
  pub progress_so : says.cause ≡ None → is ≡ progress_after plan event history was answers
  pub agree_so : says.cause ≡ None → IsOf plan new (answers_after plan event history answers)

-- so it is, whatever answers the agreement was of
abbrev pub Steps : Plan → Event → History → Progress → Progress → Kept → Kept → Option OutFault → Option Parting
    → Option (List ℕ) → Option (List ℕ) → ℕ → ℕ → Type 0
Steps plan event history was is old new over parting held holds before now =
    (answers : Answers) → IsOf plan old answers
    → IsStep plan event history answers was is new over parting held holds before now

-- ---- what was told
-- nothing ended the visit, and all lines are written
pub record GoesOn (plan : Plan) (told : Told) (progress : Progress) (agree : Kept) (held holds : Option (List ℕ))
    (before now : ℕ) : Type 0 where
  pub progress_so : progress ≡ told.progress
  pub agree_so : IsOf plan agree told.answers
  pub parting_so : told.parting ≡ None
  pub wrote : Writes None held holds before now (text_of told.lines)

-- the visit ends so, and all lines are written
pub record Parts (told : Told) (why : Parting) (progress : Progress) (held holds : Option (List ℕ))
    (before now : ℕ) : Type 0 where
  pub progress_so : progress ≡ told.progress
  pub parting_so : told.parting ≡ Some why
  pub wrote : Writes None held holds before now (text_of told.lines)

abbrev pub IsToldBy : Plan → Told → Option OutFault → Option Parting → Progress → Kept → Option (List ℕ)
    → Option (List ℕ) → ℕ → ℕ → Type 0
IsToldBy plan told None None progress agree held holds before now =
    GoesOn plan told progress agree held holds before now
IsToldBy plan told None (Some why) progress agree held holds before now = ⊥
IsToldBy plan told (Some cause) None progress agree held holds before now =
    Writes (Some cause) held holds before now (text_of told.lines)
IsToldBy plan told (Some cause) (Some why) progress agree held holds before now =
    (cause ≡ fault.Failed failure.Other) × Parts told why progress held holds before now

-- an observer that began with `start` told these notes
abbrev pub IsTelling : Plan → Progress → Option OutFault → Option Parting → Progress → Kept → Option (List ℕ)
    → Option (List ℕ) → ℕ → ℕ → List Note → Type 0
IsTelling plan start over parting progress agree held holds before now notes =
    IsToldBy plan (told_of plan start notes) over parting progress agree held holds before now
