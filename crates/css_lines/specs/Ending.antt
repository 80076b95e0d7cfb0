-- How a run over lines ends.
use Rattle.std.specs.Prelude.{◌≡◌, ◌⊎◌, ℕ, ◌≤◌, List, [], ◌++◌, length, Option, Some, None, Result, MatchResult}
use Rattle.std.specs.Io.KnownBytes.{Appends, Consumes, IsAtEnd}
use Rattle.css_outside.specs.Bytes.{IsPrefix}
use Rattle.css_outside.specs.Faults.{HasRisenOnce}
use Rattle.css_lines.specs.declared.reader.Refusal.{Refusal}
use Rattle.css_lines.specs.declared.ending.Stop.{Stop}
use Rattle.css_lines.specs.declared.ending.Stop.TheVariants.{BadLine, ReadFault, WriteFault, Memory}
use Rattle.css_lines.specs.declared.running.TheConstants.{PIECE}
use Rattle.css_lines.specs.Lines.{lines_of}
use Rattle.css_lines.specs.Meaning.{Meaning, outcome, outcome_so_far, accepted, refused_at, IsSound}

-- The run stopped in the last piece that was read: before it no line was refused, and the whole output of the lines
-- whose line feeds stand before it was printed.
pub record StopsInPiece {Cause : Type 0} (meaning : Meaning Cause) (read printed : List ℕ) : Type 0 where
  pub before : List ℕ
  pub piece : List ℕ
  pub cut : read ≡ before ++ piece
  pub short : length piece ≤ PIECE
  pub sound : IsSound meaning before
  pub kept : IsPrefix (outcome_so_far meaning before).printed printed

-- this is what becomes of the bytes that were read, whatever follows them, or where nothing follows
abbrev pub IsRefused : {Cause : Type 0} → Meaning Cause → List ℕ → Option (List ℕ) → List ℕ → ℕ → Refusal Cause → Type 0
IsRefused meaning read left printed line why =
    ((rest : List ℕ) → outcome meaning (read ++ rest) ≡ refused_at printed line why)
    ⊎ (IsAtEnd left × (outcome meaning read ≡ refused_at printed line why))

-- this is a part of the output of the lines whose line feeds were read, or, at the source's end, of all output
abbrev pub IsCutOff : {Cause : Type 0} → Meaning Cause → List ℕ → Option (List ℕ) → List ℕ → Type 0
IsCutOff meaning read left printed = IsPrefix printed (outcome_so_far meaning read).printed
    ⊎ (IsAtEnd left × IsPrefix printed (outcome meaning read).printed)

-- After these bytes were read, with those left, and this was printed, the run may stop so.
abbrev pub MayStop : {Cause : Type 0} → Meaning Cause → List ℕ → Option (List ℕ) → List ℕ → Stop Cause → Type 0
MayStop meaning read left printed (BadLine line why) =
    IsRefused meaning read left printed line why × StopsInPiece meaning read printed
MayStop meaning read left printed ReadFault = IsSound meaning read × (printed ≡ (outcome_so_far meaning read).printed)
MayStop meaning read left printed WriteFault = IsCutOff meaning read left printed × StopsInPiece meaning read printed
MayStop meaning read left printed Memory = IsCutOff meaning read left printed × StopsInPiece meaning read printed

-- The source was read to its end, each line was accepted, its whole output was printed, and the reader stands for all
-- lines.
pub record Finishes {L Cause : Type 0} (meaning : Meaning Cause) (stands : L → List (List ℕ) → Type 0)
    (left_old left_new holds_old holds_new : Option (List ℕ)) (lines : L) : Type 0 where
  pub read : List ℕ
  pub printed : List ℕ
  pub took : Consumes left_old left_new read
  pub grew : Appends holds_old holds_new printed
  pub at_end : IsAtEnd left_new
  pub all : outcome meaning read ≡ accepted printed
  pub stood : stands lines (lines_of read)

-- Some bytes were read, something was printed, and the run stopped there.
pub record Stops {Cause : Type 0} (meaning : Meaning Cause) (left_old left_new holds_old holds_new : Option (List ℕ))
    (stop : Stop Cause) : Type 0 where
  pub read : List ℕ
  pub printed : List ℕ
  pub took : Consumes left_old left_new read
  pub grew : Appends holds_old holds_new printed
  pub ends : MayStop meaning read left_new printed stop

-- A run over an input of these bytes read all of them. No line is refused, the sink grew by the whole output, and the
-- reader stands for all lines.
pub record RanToEnd {L Cause : Type 0} (meaning : Meaning Cause) (stands : L → List (List ℕ) → Type 0) (bytes : List ℕ)
    (left holds_old holds_new : Option (List ℕ)) (lines : L) : Type 0 where
  pub at_end : left ≡ Some []
  pub accepted : (outcome meaning bytes).verdict ≡ None
  pub grew : Appends holds_old holds_new (outcome meaning bytes).printed
  pub stood : stands lines (lines_of bytes)

-- a refusal is that of the whole input, and the output of the lines before was printed
abbrev pub IsVerdict : {Cause : Type 0} → Meaning Cause → List ℕ → List ℕ → Stop Cause → Type 0
IsVerdict meaning bytes printed (BadLine line why) = outcome meaning bytes ≡ refused_at printed line why
IsVerdict meaning bytes printed _ = Unit {0}

-- A run over an input of these bytes read a front part of them, and stopped there.
pub record RanUntil {Cause : Type 0} (meaning : Meaning Cause) (bytes : List ℕ)
    (left holds_old holds_new : Option (List ℕ)) (stop : Stop Cause) : Type 0 where
  pub read : List ℕ
  pub rest : List ℕ
  pub cut : bytes ≡ read ++ rest
  pub at : left ≡ Some rest
  pub printed : List ℕ
  pub grew : Appends holds_old holds_new printed
  pub verdict : IsVerdict meaning bytes printed stop
  pub ends : MayStop meaning read (Some rest) printed stop

-- the source's count has risen where a read failed, and else is as it was
abbrev pub SourceCounts : {Cause : Type 0} → ℕ → ℕ → Stop Cause → Type 0
SourceCounts before now ReadFault = HasRisenOnce before now
SourceCounts before now _ = now ≡ before

-- the sink's count has risen where a write failed, and else is as it was
abbrev pub SinkCounts : {Cause : Type 0} → ℕ → ℕ → Stop Cause → Type 0
SinkCounts before now WriteFault = HasRisenOnce before now
SinkCounts before now _ = now ≡ before

-- the source's count, by how a run ended
abbrev pub CountsReads : {T Cause : Type 0} → ℕ → ℕ → Result T (Stop Cause) → Type 0
CountsReads before now result = MatchResult result (λ _. now ≡ before) (SourceCounts before now)

-- the sink's count, by how a run ended
abbrev pub CountsWrites : {T Cause : Type 0} → ℕ → ℕ → Result T (Stop Cause) → Type 0
CountsWrites before now result = MatchResult result (λ _. now ≡ before) (SinkCounts before now)
