-- What there is to see of the source and the sink of a run, before it and after it.
use Rattle.std.specs.Prelude.{ℕ, List, Option}

-- the bytes that the source has left, where it tells them, and how often a read has failed
pub record SourceUse : Type 0 where
  pub left_old : Option (List ℕ)
  pub left_new : Option (List ℕ)
  pub faults_old : ℕ
  pub faults_new : ℕ

-- those of a source with this view and this count, which was so and is so now
abbrev pub source_use : {S : Type 0} → (S → Option (List ℕ)) → (S → ℕ) → S → S → SourceUse
source_use left faults old new =
    record { left_old = left old; left_new = left new; faults_old = faults old; faults_new = faults new }

-- the bytes that the sink holds, where it tells them, and how often a write has failed
pub record SinkUse : Type 0 where
  pub holds_old : Option (List ℕ)
  pub holds_new : Option (List ℕ)
  pub faults_old : ℕ
  pub faults_new : ℕ

-- those of a sink with this view and this count
abbrev pub sink_use : {K : Type 0} → (K → Option (List ℕ)) → (K → ℕ) → K → K → SinkUse
sink_use holds faults old new =
    record { holds_old = holds old; holds_new = holds new; faults_old = faults old; faults_new = faults new }
