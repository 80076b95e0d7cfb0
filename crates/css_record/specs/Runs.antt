-- What the run of a companion that is recorded comes to.
use Rattle.std.specs.Prelude.{◌≡◌, ℕ, List, [], Option, Result, MatchResult}
use Rattle.std.specs.Result.{result_err}
use Rattle.std.specs.Io.KnownBytes.{Appends}
use Rattle.css_model.specs.History.{History}
use Rattle.css_outside.specs.Bytes.{AppendsPrefix}
use Rattle.css_outside.specs.Faults.{CountsCall}
use Rattle.css_outside.specs.Outsides.{with_entries}
use Rattle.css_outside.specs.declared.fault.OutFault.{OutFault}
use Rattle.css_audit.specs.Printed.{record_text}
use Rattle.css_companion.specs.declared.config.CompanionConfig.{CompanionConfig}
use Rattle.css_drive.specs.CompanionDue.{due, IsProperRun}
use Rattle.css_drive.specs.CompanionReports.{KeepsPromises}
use Rattle.css_drive.specs.Ends.{MayEnd}
use Rattle.css_drive.specs.declared.config.DriveConfig.{DriveConfig}
use Rattle.css_drive.specs.declared.driven.Driven.{Driven}
use Rattle.css_drive.specs.declared.driven.Driven.TheVariants as driven
use Rattle.css_drive.specs.Notes.{Note}
use Rattle.css_record.specs.declared.recorder.Recorder.{Recorder}
use Rattle.css_record.specs.Lines.{lines_of, record_of}

-- What a sink holds after a run that ended so, which wrote this: all of it, but where a write failed or memory ran out.
abbrev pub HoldsRecord : Option (List ℕ) → Option (List ℕ) → List ℕ → Driven → Type 0
HoldsRecord held holds whole driven.WriteFault = AppendsPrefix held holds whole
HoldsRecord held holds whole driven.Memory = AppendsPrefix held holds whole
HoldsRecord held holds whole _ = Appends held holds whole

-- A run's calls since `before` are these, the newest first, and each was due. The run ended where it may. Each report
-- that was due is true. The sink grew by the record of these calls.
pub record Recorded (config : DriveConfig) (before now : Option History) (held holds : Option (List ℕ))
    (ended : Driven) : Type 0 where
  pub history : History
  pub told : now ≡ with_entries history before
  pub proper : IsProperRun config history
  pub ends : MayEnd (due config history) ended
  pub promised : KeepsPromises config history
  pub wrote : HoldsRecord held holds (record_of config history) ended

-- ---- on the way
-- These bytes were written, or a part of them where a write failed or memory ran out. The sink's faults are counted.
pub record Writes {T : Type 0} (written : Result T OutFault) (held holds : Option (List ℕ)) (before now : ℕ)
    (bytes : List ℕ) : Type 0 where
  pub wrote : MatchResult written (λ _. Appends held holds bytes) (λ _. AppendsPrefix held holds bytes)
  pub counted : CountsCall before now written

-- why a recorder is over, if it is
abbrev pub over : {K : Type 0} → Recorder K → Option OutFault
over recorder = result_err recorder.written

-- From the first to the second state of a recorder its sink's name stayed, and after the header of a record it wrote
-- the lines of these notes.
pub record Saw {K : Type 0} (holds : K → Option (List ℕ)) (faults : K → ℕ) (started now : Recorder K)
    (notes : List Note) : Type 0 where
  pub name : now.sink.ghost_name ≡ started.sink.ghost_name
  pub writes : (config : CompanionConfig) (held : Option (List ℕ)) (was : ℕ)
      → Writes started.written held (holds started.sink.now) was (faults started.sink.now) (record_text config [])
      → Writes now.written held (holds now.sink.now) was (faults now.sink.now) (record_text config (lines_of notes))
