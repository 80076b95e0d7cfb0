-- How a run ends, as a status; and what a command over lines does to its devices.
use Rattle.std.specs.Prelude.{ℕ, ◌≡◌, ◌⊎◌, ◌<◌, ◌≤◌, ◌-◌, ◌^◌, List, [], ◌++◌, codes, decimal}
use Rattle.std.specs.Prelude.{Option, Some, None, Ok, Err}
use Rattle.std.specs.Fmt.{signed_decimal}
use Rattle.std.specs.Io.KnownBytes.{Appends}
use Rattle.css_outside.specs.Faults.{HasRisen, HasRisenOnce}
use Rattle.css_lines.specs.declared.reader.Refusal.{Refusal}
use Rattle.css_lines.specs.declared.ending.Stop.{Stop}
use Rattle.css_lines.specs.declared.ending.Stop.TheVariants as stops
use Rattle.css_lines.specs.Meaning.{Meaning, outcome}
use Rattle.css_lines.specs.Ending.{RanUntil}
use Rattle.css_cii.specs.FaultWords.{fault_words}
use Rattle.css_cii.specs.Names.{json_name}
use Rattle.css_schedule.specs.FaultWords.{why_words}
use Rattle.css_status.specs.Devices.{SourceUse, SinkUse}
use Rattle.css_status.specs.declared.status.Status.{Status}
use Rattle.css_status.specs.declared.status.Status.TheVariants.{Done, Usage, BadLine, Broken, ReadFault, WriteFault}
use Rattle.css_status.specs.declared.status.Status.TheVariants.{NetFault, BadCii, Moved, Spent, Unreachable, ChildFault}
use Rattle.css_status.specs.declared.status.Status.TheVariants.{BadSheet, BadUrl, WrongReport, NoInterval, Memory}

-- the exit status of the program
abbrev pub status_number : Status → ℕ
status_number Done = 0
status_number Usage = 1
status_number (BadLine line why) = 2
status_number (Broken line earlier excess) = 3
status_number ReadFault = 4
status_number WriteFault = 5
status_number (NetFault failure) = 6
status_number (BadCii text fault) = 7
status_number (Moved property old new) = 8
status_number (Spent turns) = 9
status_number (Unreachable turns) = 10
status_number (ChildFault status) = 11
status_number (BadSheet line) = 12
status_number (BadUrl property) = 13
status_number Memory = 14
status_number (WrongReport line right) = 15
status_number (NoInterval reports) = 16

-- the words of a status, which stand behind the program's name on standard error
abbrev pub status_words : Status → List ℕ
status_words Done = codes "done"
status_words Usage = codes "usage"
status_words (BadLine line why) = codes "line " ++ decimal line ++ codes ": " ++ why_words why
status_words (Broken line earlier excess) =
    codes "line " ++ decimal line ++ codes ": broken with line " ++ decimal earlier ++ codes " by "
    ++ signed_decimal excess
status_words ReadFault = codes "read fault"
status_words WriteFault = codes "write fault"
status_words (NetFault failure) = codes "net fault"
status_words (BadCii text fault) = codes "cii text " ++ decimal text ++ codes ": " ++ fault_words fault
status_words (Moved property old new) = codes "moved " ++ json_name property
status_words (Spent turns) = codes "spent after " ++ decimal turns ++ codes " turns"
status_words (Unreachable turns) = codes "unreachable after " ++ decimal turns ++ codes " turns"
status_words (ChildFault (Err failure)) = codes "child fault"
status_words (ChildFault (Ok status)) = codes "child status " ++ signed_decimal status
status_words (BadSheet line) = codes "sheet line " ++ decimal line
status_words (BadUrl property) = codes "bad url " ++ json_name property
status_words (WrongReport line right) = codes "line " ++ decimal line ++ codes ": wrong report"
status_words (NoInterval reports) = codes "no interval in " ++ decimal reports ++ codes " reports"
status_words Memory = codes "memory"

-- The line that tells a status on standard error: the program's name, its words, and a line feed. Done is told by no
-- line.
abbrev pub status_line : Status → List ℕ
status_line Done = []
status_line status = codes "css: " ++ status_words status ++ codes "\n"

-- ---- runs over lines
-- the status of a run that stopped, by those of the lines that it may refuse
abbrev pub stop_status : {Cause : Type 0} → (ℕ → Refusal Cause → Status) → Stop Cause → Status
stop_status refused (stops.BadLine line why) = refused line why
stop_status refused stops.ReadFault = ReadFault
stop_status refused stops.WriteFault = WriteFault
stop_status refused stops.Memory = Memory

-- The input was read to its end, no line of it is refused, and the sink grew by the whole output.
pub record ReadsAll {Cause : Type 0} (meaning : Meaning Cause) (bytes : List ℕ)
    (left holds_old holds_new : Option (List ℕ)) (status : Status) : Type 0 where
  pub done : status ≡ Done
  pub at_end : left ≡ Some []
  pub accepted : (outcome meaning bytes).verdict ≡ None
  pub grew : Appends holds_old holds_new (outcome meaning bytes).printed

-- The run stopped, and the status says how.
pub record ReadsUntil {Cause : Type 0} (meaning : Meaning Cause) (refused : ℕ → Refusal Cause → Status)
    (bytes : List ℕ) (left holds_old holds_new : Option (List ℕ)) (status : Status) : Type 0 where
  pub stop : Stop Cause
  pub ran : RanUntil meaning bytes left holds_old holds_new stop
  pub told : status ≡ stop_status refused stop

-- what a run over lines of these bytes may leave
abbrev pub Reads : {Cause : Type 0} → Meaning Cause → (ℕ → Refusal Cause → Status) → List ℕ → Option (List ℕ)
    → Option (List ℕ) → Option (List ℕ) → Status → Type 0
Reads meaning refused bytes left holds_old holds_new status =
    ReadsAll meaning bytes left holds_old holds_new status
    ⊎ ReadsUntil meaning refused bytes left holds_old holds_new status

-- ---- counts of faults
-- the source's count of faults has risen where a read failed, and else is as it was
abbrev pub CountsReads : ℕ → ℕ → Status → Type 0
CountsReads before now ReadFault = HasRisenOnce before now
CountsReads before now _ = now ≡ before

-- the sink's count of faults has risen where a write failed, and else is as it was
abbrev pub CountsWrites : ℕ → ℕ → Status → Type 0
CountsWrites before now WriteFault = HasRisenOnce before now
CountsWrites before now _ = now ≡ before

-- The outside's count of faults of calls other than dials has risen where a call failed, and else is as it was.
abbrev pub CountsCalls : ℕ → ℕ → Status → Type 0
CountsCalls before now (NetFault failure) = HasRisenOnce before now
CountsCalls before now _ = now ≡ before

-- Where no dial succeeded, the count of failed dials has risen. It never falls.
abbrev pub CountsDials : ℕ → ℕ → Status → Type 0
CountsDials before now (Unreachable turns) = HasRisen before now
CountsDials before now _ = before ≤ now

-- The spawner's count of faults has risen where a status says so, and is as it was at `Done` and at a child's status.
-- It never falls.
abbrev pub CountsSpawns : ℕ → ℕ → Status → Type 0
CountsSpawns before now Done = now ≡ before
CountsSpawns before now (ChildFault (Err failure)) = HasRisenOnce before now
CountsSpawns before now (ChildFault (Ok ended)) = now ≡ before
CountsSpawns before now _ = before ≤ now

-- A status of a command over lines tells no fault of the outside or of a spawner.
pub record TellsNoLive (result : Status) : Type 0 where
  pub calls : (count : ℕ) → CountsCalls count count result
  pub dials : (count : ℕ) → CountsDials count count result
  pub spawns : (count : ℕ) → CountsSpawns count count result

-- No call of a device failed: its count of faults is as it was, and below its greatest value, where it would stay.
pub record HasNotFailed (before now : ℕ) : Type 0 where
  pub below : before < 2 ^ 64 - 1
  pub same : now ≡ before

-- the input was read to its end, unless memory ran out
abbrev pub IsDoneUnlessMemory : Status → Type 0
IsDoneUnlessMemory Done = Unit {0}
IsDoneUnlessMemory Memory = Unit {0}
IsDoneUnlessMemory _ = ⊥

-- the words were those of a command
abbrev pub IsNoUsage : Status → Type 0
IsNoUsage Usage = ⊥
IsNoUsage _ = Unit {0}

-- ---- commands over lines
-- The status says how the lines were read, which mean this, and the sink holds their output.
pub record OverLines {Cause : Type 0} (meaning : Meaning Cause) (refused : ℕ → Refusal Cause → Status)
    (source : SourceUse) (sink : SinkUse) (result : Status) : Type 0 where
  pub no_usage : IsNoUsage result
  pub reads : (bytes : List ℕ) → source.left_old ≡ Some bytes
      → Reads meaning refused bytes source.left_new sink.holds_old sink.holds_new result
  -- an input of which no line is refused is read to its end, over devices that don't fail
  pub complete : (bytes : List ℕ) → source.left_old ≡ Some bytes → (outcome meaning bytes).verdict ≡ None
      → HasNotFailed source.faults_old source.faults_new → HasNotFailed sink.faults_old sink.faults_new
      → IsDoneUnlessMemory result
