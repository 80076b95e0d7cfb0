-- What the status of a run over lines tells of it and of its devices.
use Rattle.std.proofs.Common.{◌≡◌, ℕ, arith, rules, subst, refl, inl, inr, List, ◌++◌}
use Rattle.std.proofs.lemmas.Grind.{common_steps}
use Rattle.std.specs.Prelude.{Option, Some, None, codes, ⊤}
use Rattle.css_lines.specs.Meaning.{Meaning, outcome}
use Rattle.css_lines.specs.Ending.{RanToEnd, RanUntil, SourceCounts, SinkCounts}
use Rattle.css_lines.specs.declared.reader.Refusal.{Refusal}
use Rattle.css_lines.specs.declared.ending.Stop.{Stop}
use Rattle.css_lines.specs.declared.ending.Stop.TheVariants as stops
use Rattle.css_status.specs.declared.status.Status.{Status}
use Rattle.css_status.specs.declared.status.Status.TheVariants.{Done, Usage, ReadFault, WriteFault, NetFault}
use Rattle.css_status.specs.declared.status.Status.TheVariants.{Unreachable, ChildFault}
use Rattle.css_status.specs.Devices.{SourceUse, SinkUse}
use Rattle.css_status.specs.Ended.{CountsReads, CountsWrites, HasNotFailed, IsDoneUnlessMemory, IsNoUsage, OverLines}
use Rattle.css_status.specs.Ended.{TellsNoLive, status_line, status_words, stop_status}

-- the line of a status that has one
pub line_of_words : (status : Status) → (status ≡ Done → ⊥)
    → status_line status ≡ codes "css: " ++ status_words status ++ codes "\n"
line_of_words status none = grind (arith, common_steps)

-- a status that tells why a line is refused, or want of memory
abbrev pub IsOfLine : Status → Type 0
IsOfLine Done = ⊥
IsOfLine Usage = ⊥
IsOfLine ReadFault = ⊥
IsOfLine WriteFault = ⊥
IsOfLine (NetFault failure) = ⊥
IsOfLine (Unreachable turns) = ⊥
IsOfLine (ChildFault status) = ⊥
IsOfLine _ = ⊤

-- It tells which of the source and the sink failed, and of no other device.
pub record EndsLines (r r' w w' : ℕ) (result : Status) : Type 0 where
  pub no_usage : IsNoUsage result
  pub quiet : TellsNoLive result
  pub reads : CountsReads r r' result
  pub writes : CountsWrites w w' result

pub line_ends : {r r' w w' : ℕ} (result : Status) → IsOfLine result → r' ≡ r → w' ≡ w → EndsLines r r' w w' result
line_ends result of read wrote = grind (arith, common_steps)

-- ---- a run that read all
pub read_all : {L Cause : Type 0} {meaning : Meaning Cause} {stands : L → List (List ℕ) → Type 0} {lines : L}
    {refused : ℕ → Refusal Cause → Status} {source : SourceUse} {sink : SinkUse}
    → ((bytes : List ℕ) → source.left_old ≡ Some bytes
    → RanToEnd meaning stands bytes source.left_new sink.holds_old sink.holds_new lines)
    → OverLines meaning refused source sink Done
read_all ran = record {
  no_usage = tt;
  reads = λ bytes is. let all = ran bytes is in inl (search rules);
  complete = λ bytes is accepted read written. tt;
}

-- ---- one that stopped
module _ {Cause : Type 0} (refused : ℕ → Refusal Cause → Status)
    (of_line : (line : ℕ) (why : Refusal Cause) → IsOfLine (refused line why)) where
  -- it isn't told as done
  pub never_done : (stop : Stop Cause) → stop_status refused stop ≡ Done → ⊥
  never_done (stops.BadLine line why) e = subst IsOfLine e (of_line line why)
  never_done _ e = cc

  pub stop_ends : {r r' w w' : ℕ} (stop : Stop Cause) → SourceCounts r r' stop → SinkCounts w w' stop
      → EndsLines r r' w w' (stop_status refused stop)
  stop_ends (stops.BadLine line why) read wrote = line_ends (refused line why) (of_line line why) read wrote
  stop_ends _ read wrote = search rules

  -- of an input of which no line is refused it stops only for want of memory, unless a device failed
  only_memory : {meaning : Meaning Cause} {bytes : List ℕ} {left holds_old holds_new : Option (List ℕ)}
      {r r' w w' : ℕ} (stop : Stop Cause) → RanUntil meaning bytes left holds_old holds_new stop
      → (outcome meaning bytes).verdict ≡ None → SourceCounts r r' stop → SinkCounts w w' stop
      → HasNotFailed r r' → HasNotFailed w w' → IsDoneUnlessMemory (stop_status refused stop)
  only_memory (stops.BadLine line why) ran accepted source sink read written =
      absurd (let none = rw ran.verdict at accepted in cc)
  only_memory _ ran accepted source sink read written = grind (arith, common_steps)

  pub stopped : {meaning : Meaning Cause} {source : SourceUse} {sink : SinkUse} (stop : Stop Cause)
      → ((bytes : List ℕ) → source.left_old ≡ Some bytes
      → RanUntil meaning bytes source.left_new sink.holds_old sink.holds_new stop)
      → SourceCounts source.faults_old source.faults_new stop → SinkCounts sink.faults_old sink.faults_new stop
      → OverLines meaning refused source sink (stop_status refused stop)
  stopped stop ran read wrote = record {
    no_usage = (stop_ends stop read wrote).no_usage;
    reads = λ bytes is. inr (record { stop = stop; ran = ran bytes is; told = refl });
    complete = λ bytes is accepted. only_memory stop (ran bytes is) accepted read wrote;
  }
