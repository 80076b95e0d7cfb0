-- How far a run over lines has come, and how its parts stop it.
use Rattle.std.specs.Prelude.{◌≡◌, ℕ, ◌≤◌, ◌<◌, false, List, [], ◌∷◌, ◌++◌, All}
use Rattle.std.specs.Prelude.{length, Option, Result, Ok, Err, MatchResult}
use Rattle.std.specs.Io.KnownBytes.{Appends}
use Rattle.css_outside.specs.declared.fault.OutFault.{OutFault}
use Rattle.css_outside.specs.declared.fault.OutFault.TheVariants as fault
use Rattle.css_outside.specs.Bytes.{IsPrefix}
use Rattle.css_lines.specs.declared.reader.LineFault.{LineFault}
use Rattle.css_lines.specs.declared.reader.LineFault.TheVariants as refused
use Rattle.css_lines.specs.declared.reader.Refusal.TheVariants.{Refused}
use Rattle.css_lines.specs.declared.ending.Stop.{Stop}
use Rattle.css_lines.specs.declared.ending.Stop.TheVariants.{BadLine, ReadFault, WriteFault, Memory}
use Rattle.css_lines.specs.declared.pending.Pending.{Pending}
use Rattle.css_lines.specs.Lines.{is_feed, lines_of, whole_lines, last_part}
use Rattle.css_lines.specs.Meaning.{Meaning, Outcome, outcome, outcome_so_far, accepted}
use Rattle.css_lines.specs.Meaning.{refused_at, followed_by, finish_outcome}

-- the stop that a reader's fault makes at the line of that number
abbrev pub line_stop : {Cause : Type 0} → ℕ → LineFault Cause → Stop Cause
line_stop line (refused.Refused cause) = BadLine line (Refused cause)
line_stop line refused.Memory = Memory

-- the stop that a sink's fault makes
abbrev pub sink_stop : {Cause : Type 0} → OutFault → Stop Cause
sink_stop (fault.Failed failure) = WriteFault
sink_stop fault.Memory = Memory

-- no line feed stands in the bytes
abbrev pub HasNoFeed : List ℕ → Type 0
HasNoFeed bytes = All (λ byte. is_feed byte ≡ false) bytes

-- the bytes are a line, its line feed, and what stands after it
pub record IsCut (bytes line after : List ℕ) : Type 0 where
  pub whole : bytes ≡ line ++ 10 ∷ after
  pub free : HasNoFeed line

-- the reader stands for as many lines as were taken
abbrev pub IsPlaced : {L : Type 0} → (L → List (List ℕ) → Type 0) → L → Pending → Type 0
IsPlaced stands lines pending = (before : List (List ℕ)) × stands lines before × (pending.taken ≡ length before)

-- Where these bytes were read: each line whose line feed was read is taken, and its output is in the sink.
pub record Progress {L Cause : Type 0} (meaning : Meaning Cause) (stands : L → List (List ℕ) → Type 0)
    (start : Option (List ℕ)) (read : List ℕ) (lines : L) (pending : Pending) (holds : Option (List ℕ)) : Type 0 where
  pub stood : stands lines (whole_lines read)
  pub text : pending.text.items ≡ last_part read
  pub short : length (last_part read) ≤ meaning.longest_line (whole_lines read)
  pub within : 0 < length (last_part read) → length read ≤ meaning.longest_input (whole_lines read)
  pub taken : pending.taken ≡ length (whole_lines read)
  pub count : pending.count ≡ length read
  pub printed : List ℕ
  pub grew : Appends start holds printed
  pub so_far : outcome_so_far meaning read ≡ accepted printed

-- what the reader means to print
abbrev pub printed_of : {Cause : Type 0} → Result (List ℕ) Cause → List ℕ
printed_of (Ok printed) = printed
printed_of (Err cause) = []

-- it stopped at the line of that number, of which this is meant, after a front part of its output
abbrev pub StopsAt : {Cause : Type 0} → Result (List ℕ) Cause → ℕ → List ℕ → Stop Cause → Type 0
StopsAt meant number front (BadLine line (Refused cause)) = (meant ≡ Err cause) × (line ≡ number) × (front ≡ [])
StopsAt meant number front WriteFault = IsPrefix front (printed_of meant)
StopsAt meant number front Memory = IsPrefix front (printed_of meant)
StopsAt meant number front _ = ⊥

-- a line was taken and its output written, or it stopped there
pub record TakesLine {T Cause : Type 0} (meant : Result (List ℕ) Cause) (number : ℕ) (old new : Option (List ℕ))
    (result : Result T (Stop Cause)) : Type 0 where
  pub front : List ℕ
  pub grew : Appends old new front
  pub cases : MatchResult result (λ _. meant ≡ Ok front) (StopsAt meant number front)

-- it stops so after these bytes, whatever follows
abbrev pub StopsAfter : {Cause : Type 0} → Meaning Cause → List ℕ → List ℕ → Stop Cause → Type 0
StopsAfter meaning read printed (BadLine line why) =
    (rest : List ℕ) → outcome meaning (read ++ rest) ≡ refused_at printed line why
StopsAfter meaning read printed WriteFault = IsPrefix printed (outcome_so_far meaning read).printed
StopsAfter meaning read printed Memory = IsPrefix printed (outcome_so_far meaning read).printed
StopsAfter meaning read printed ReadFault = ⊥

-- The output of the lines before stays in the sink, and the run stops after these bytes.
pub record Stopped {Cause : Type 0} (meaning : Meaning Cause) (start : Option (List ℕ)) (before read : List ℕ)
    (holds : Option (List ℕ)) (stop : Stop Cause) : Type 0 where
  pub printed : List ℕ
  pub grew : Appends start holds printed
  pub kept : IsPrefix (outcome_so_far meaning before).printed printed
  pub ends : StopsAfter meaning read printed stop

-- Where a run has a reader, a pending line and a sink at one point, and at a later one, it has taken these bytes
-- between them, or it stopped in them.
abbrev pub Advances : {L T Cause : Type 0} → Meaning Cause → (L → List (List ℕ) → Type 0) → List ℕ
    → L × Pending × Option (List ℕ) → L × Pending × Option (List ℕ) → Result T (Stop Cause) → Type 0
Advances meaning stands bytes old new result =
    (start : Option (List ℕ)) (read : List ℕ) → Progress meaning stands start read old.0 old.1 old.2 →
    MatchResult result (λ _. Progress meaning stands start (read ++ bytes) new.0 new.1 new.2)
    (Stopped meaning start read (read ++ bytes) new.2)

-- The source ended after these bytes, and each line is taken.
pub record AllTaken {L Cause : Type 0} (meaning : Meaning Cause) (stands : L → List (List ℕ) → Type 0)
    (start : Option (List ℕ)) (read : List ℕ) (lines : L) (pending : Pending) (holds : Option (List ℕ)) : Type 0 where
  pub stood : stands lines (lines_of read)
  pub taken : pending.taken ≡ length (lines_of read)
  pub printed : List ℕ
  pub grew : Appends start holds printed
  pub kept : IsPrefix (outcome_so_far meaning read).printed printed
  pub all : outcome meaning read ≡ followed_by (accepted printed) (finish_outcome meaning (lines_of read))

-- it stops so where the source ended after these bytes
abbrev pub StopsWith : {Cause : Type 0} → Outcome Cause → List ℕ → Stop Cause → Type 0
StopsWith whole printed (BadLine line why) = whole ≡ refused_at printed line why
StopsWith whole printed WriteFault = IsPrefix printed whole.printed
StopsWith whole printed Memory = IsPrefix printed whole.printed
StopsWith whole printed ReadFault = ⊥

-- The output of the lines before stays in the sink, and the run stops at the source's end.
pub record StoppedAtEnd {Cause : Type 0} (meaning : Meaning Cause) (start : Option (List ℕ)) (read : List ℕ)
    (holds : Option (List ℕ)) (stop : Stop Cause) : Type 0 where
  pub printed : List ℕ
  pub grew : Appends start holds printed
  pub kept : IsPrefix (outcome_so_far meaning read).printed printed
  pub ends : StopsWith (outcome meaning read) printed stop

-- All output was written, no line is refused, and the reader stands for all lines.
pub record Finished {L Cause : Type 0} (meaning : Meaning Cause) (stands : L → List (List ℕ) → Type 0)
    (start : Option (List ℕ)) (read : List ℕ) (lines : L) (holds : Option (List ℕ)) : Type 0 where
  pub printed : List ℕ
  pub grew : Appends start holds printed
  pub all : outcome meaning read ≡ accepted printed
  pub stood : stands lines (lines_of read)
