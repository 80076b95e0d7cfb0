-- What the run of a visit comes to.
use Rattle.std.proofs.Common.{◌≡◌, ℕ, sym, subst, refl, List, [], ◌∷◌, Bool, true, false, cond, Option, Some, None}
use Rattle.std.proofs.KnownBytes.{Appends-nil}
use Rattle.std.specs.Prelude.{length, ◌+◌}
use Rattle.css_agree.specs.Keeping.{Kept}
use Rattle.css_model.specs.History.{History}
use Rattle.css_outside.specs.declared.fault.OutFault.{OutFault}
use Rattle.css_outside.specs.declared.fault.OutFault.TheVariants as fault
use Rattle.css_drive.specs.CompanionReports.{is_due, report_at, due_reports}
use Rattle.css_drive.specs.CompanionStanding.{IsEndOf, Made}
use Rattle.css_drive.specs.CompanionTurns.{first_turn, turn_at}
use Rattle.css_drive.specs.Ends as drive
use Rattle.css_drive.specs.Notes.{Event, Note, Reported, event_of, noted, standpoint, with_event}
use Rattle.css_drive.specs.Notes.{with_report}
use Rattle.css_drive.specs.declared.config.DriveConfig.{DriveConfig}
use Rattle.css_drive.specs.declared.driven.Driven.{Driven}
use Rattle.css_drive.specs.declared.driven.Driven.TheVariants as driven
use Rattle.css_watch.specs.Following.{CountsWrites, IsRun, IsWhole, Saw, Stage}
use Rattle.css_watch.specs.Progress.{fresh, with_visit}
use Rattle.css_watch.specs.Telling.{Told, told_of}
use Rattle.css_watch.specs.Watching.{AreFrom, GoesOn, IsFresh, IsTelling, IsToldBy}
use Rattle.css_watch.specs.Visits.{EndsAtCause}
use Rattle.css_drive.specs.declared.parting.Parting.{Parting}
use Rattle.css_watch.specs.declared.plan.Plan.{Plan}
use Rattle.css_watch.specs.declared.progress.Begun.{Begun}
use Rattle.css_watch.specs.declared.progress.Progress.{Progress}
use Rattle.css_watch.proofs.Telling.{whole_prefix}

-- ---- notes of one run
from_event : (config : DriveConfig) (older : History) (event : Option Event) (notes : List Note)
    → AreFrom config notes → AreFrom config (with_event (standpoint config older) event notes)
from_event config older None notes a = a
from_event config older (Some event) notes a = (refl, a)

from_report : (config : DriveConfig) (older : History) (turn : Option ℕ) (notes : List Note)
    → AreFrom config notes → AreFrom config (with_report config turn older notes)
from_report config older None notes a = a
from_report config older (Some reading) notes a =
    at (is_due config.report_every reading (first_turn older) (length (due_reports config older)))
  where
    at : (b : Bool) → AreFrom config (cond b (Reported (standpoint config older) (length (due_reports config older)
        + 1) (report_at config older reading) ∷ notes) notes)
    at true = (refl, a)
    at false = a

-- the notes of a run are from its configuration
are_from : (config : DriveConfig) (history : History) → AreFrom config (noted config history)
are_from config [] = tt
are_from config (entry ∷ older) =
    from_report config older (turn_at entry) (with_event (standpoint config older) (event_of entry older) (noted config
    older)) (from_event config older (event_of entry older) (noted config older) (are_from config older))

-- ---- what the observer saw
whole_of : (plan : Plan) (told : Told) (progress : Progress) (agree : Kept) (held holds : Option (List ℕ))
    (before now : ℕ) → GoesOn plan told progress agree held holds before now → IsWhole told None progress held holds
whole_of plan told progress agree held holds before now g =
    record { progress_so = g.progress_so; parting_so = g.parting_so; wrote = g.wrote.0 }

-- there was no cause
none : (told : Told) (ended : Driven) → told.parting ≡ None → EndsAtCause told.parting ended
none told ended e = let P : Option Parting → Type 0 = λ x. EndsAtCause x ended in subst P (sym e) tt

-- one that isn't over
saw_on : (plan : Plan) (told : Told) (progress : Progress) (agree : Kept) (held holds : Option (List ℕ))
    (before now : ℕ) (ended : Driven) → GoesOn plan told progress agree held holds before now
    → (ended ≡ driven.WriteFault → ⊥) → Saw told None ended progress held holds × CountsWrites None ended before now
saw_on plan told progress agree held holds before now driven.WriteFault g never = absurd (never refl)
saw_on plan told progress agree held holds before now driven.Memory g never =
    (whole_prefix held holds _ g.wrote.0, g.wrote.1)
saw_on plan told progress agree held holds before now (driven.NetFault failure) g never =
    (whole_of plan told progress agree held holds before now g, g.wrote.1)
saw_on plan told progress agree held holds before now driven.Done g never =
    (whole_of plan told progress agree held holds before now g, g.wrote.1)
saw_on plan told progress agree held holds before now (driven.BadLine line cause) g never =
    (whole_of plan told progress agree held holds before now g, g.wrote.1)
saw_on plan told progress agree held holds before now (driven.BadCii text reason) g never =
    (whole_of plan told progress agree held holds before now g, g.wrote.1)
saw_on plan told progress agree held holds before now (driven.Moved property old new) g never =
    (whole_of plan told progress agree held holds before now g, g.wrote.1)
saw_on plan told progress agree held holds before now (driven.Spent turns) g never =
    (whole_of plan told progress agree held holds before now g, g.wrote.1)
saw_on plan told progress agree held holds before now (driven.Unreachable turns) g never =
    (whole_of plan told progress agree held holds before now g, g.wrote.1)
saw_on plan told progress agree held holds before now (driven.BadUrl property) g never =
    (whole_of plan told progress agree held holds before now g, g.wrote.1)

pub saw_of : (plan : Plan) (told : Told) (over : Option OutFault) (parting : Option Parting) (progress : Progress)
    (agree : Kept) (held holds : Option (List ℕ)) (before now : ℕ) (ended : Driven)
    → IsToldBy plan told over parting progress agree held holds before now → IsEndOf over ended
    → Saw told parting ended progress held holds × CountsWrites parting ended before now
saw_of plan told None None progress agree held holds before now ended t so =
    saw_on plan told progress agree held holds before now ended t so
saw_of plan told None (Some why) progress agree held holds before now ended t so = absurd t
saw_of plan told (Some (fault.Failed failure)) None progress agree held holds before now ended t so =
    let P : Driven → Type 0 = λ x. Saw told None x progress held holds × CountsWrites None x before now in
    subst P (sym so) (t.0, t.1)
saw_of plan told (Some fault.Memory) None progress agree held holds before now ended t so =
    let P : Driven → Type 0 = λ x. Saw told None x progress held holds × CountsWrites None x before now in
    subst P (sym so) (t.0, t.1)
saw_of plan told (Some cause) (Some why) progress agree held holds before now ended t so =
    let P : OutFault → Type 0 = λ x. IsEndOf (Some x) ended in (
      (subst P t.0 so, record { progress_so = t.1.progress_so; parting_so = t.1.parting_so; wrote = t.1.wrote.0 }),
      t.1.wrote.1,
    )

-- where there was a cause to end the visit, the run ended by it
at_cause : (told : Told) (parting : Option Parting) (progress : Progress) (held holds : Option (List ℕ))
    (ended : Driven) → Saw told parting ended progress held holds → EndsAtCause told.parting ended
at_cause told (Some why) progress held holds ended s =
    let P : Driven → Type 0 = λ x. EndsAtCause told.parting x in subst P (sym s.0) (by told.parting)
  where
    by : (o : Option Parting) → EndsAtCause o driven.WriteFault
    by None = tt
    by (Some cause) = tt
at_cause told None progress held holds driven.WriteFault s = by told.parting
  where
    by : (o : Option Parting) → EndsAtCause o driven.WriteFault
    by None = tt
    by (Some cause) = tt
at_cause told None progress held holds driven.Memory s = by told.parting
  where
    by : (o : Option Parting) → EndsAtCause o driven.Memory
    by None = tt
    by (Some cause) = tt
at_cause told None progress held holds (driven.NetFault failure) s = none told (driven.NetFault failure) s.parting_so
at_cause told None progress held holds driven.Done s = none told driven.Done s.parting_so
at_cause told None progress held holds (driven.BadLine line cause) s =
    none told (driven.BadLine line cause) s.parting_so
at_cause told None progress held holds (driven.BadCii text reason) s =
    none told (driven.BadCii text reason) s.parting_so
at_cause told None progress held holds (driven.Moved property old new) s =
    none told (driven.Moved property old new) s.parting_so
at_cause told None progress held holds (driven.Spent turns) s = none told (driven.Spent turns) s.parting_so
at_cause told None progress held holds (driven.Unreachable turns) s = none told (driven.Unreachable turns) s.parting_so
at_cause told None progress held holds (driven.BadUrl property) s = none told (driven.BadUrl property) s.parting_so

-- ---- the run
pub run_of : (plan : Plan) (begun : Begun) (start now : Stage) (saw : List Note → Type 0) (over : Option OutFault)
    (parting : Option Parting) (first progress left : Progress) (agree : Kept) (ended : Driven)
    → first ≡ fresh (with_visit begun) → left ≡ progress → (m : Made plan.run start.told now.told saw over ended)
    → (AreFrom plan.run (noted plan.run m.history) → IsTelling plan first over parting progress agree start.holds
    now.holds start.writes now.writes (noted plan.run m.history))
    → drive.CountsNetFault start.faults now.faults ended → IsRun plan begun start now m.history ended parting left
run_of plan begun start now saw over parting first progress left agree ended e same m t counted =
    let R : Progress → Type 0 = λ x. IsRun plan begun start now m.history ended parting x in
    let P : Progress → Type 0 = λ x. IsTelling plan x over parting progress agree start.holds now.holds start.writes
    now.writes (noted plan.run m.history) in
    let s = saw_of plan (told_of plan (fresh (with_visit begun)) (noted plan.run m.history)) over parting progress agree
    start.holds now.holds start.writes now.writes ended (subst P e (t (are_from plan.run m.history))) m.so in
    subst R (sym same) (record {
      visited = record {
        proper = m.proper;
        ends = m.ends;
        promised = m.promised;
        at_cause = at_cause (told_of plan (fresh (with_visit begun)) (noted plan.run m.history)) parting progress
            start.holds now.holds ended s.0;
      };
      told = m.told;
      saw = s.0;
      faults = counted;
      writes = s.1;
    })

-- what an observer has told that is fresh: nothing
pub tells_first : (plan : Plan) (begun : Begun) (progress : Progress) (agree : Kept) (over : Option OutFault)
    (parting : Option Parting) (held : Option (List ℕ)) (count : ℕ) → IsFresh plan begun progress agree over parting
    → IsTelling plan progress over parting progress agree held held count count []
tells_first plan begun progress agree over parting held count f =
    let P : Option OutFault → Type 0 = λ x. IsTelling plan progress x parting progress agree held held count count [] in
    let Q : Option Parting → Type 0 = λ x. IsTelling plan progress None x progress agree held held count count [] in
    subst P (sym f.over_so) (subst Q (sym f.parting_so) (record {
      progress_so = refl;
      agree_so = record { local = f.agree_so.local; stands = f.agree_so.stands };
      parting_so = refl;
      wrote = (Appends-nil held, refl);
    }))
