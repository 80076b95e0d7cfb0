-- A copy of what a companion answers by, in plain numbers.
use Rattle.std.specs.Prelude.{ℕ, ◌≡◌, ◌≤◌, ◌⊎◌, ◌==◌, nat_le, nat_lt, if◌then◌else◌}
use Rattle.std.specs.Prelude.{List, length, map, reverse, take, All, Option, None, Result, Ok, Err}
use Rattle.css_num.specs.Rates.{IsTickRate}
use Rattle.css_num.specs.Spans.{Interval}
use Rattle.css_model.specs.declared.TheConstants.{LIMIT}
use Rattle.css_model.specs.WallClock.{Answer, Local, IsAnswer, IsLocal}
use Rattle.css_model.specs.History.{History}
use Rattle.css_span.specs.Frontiers.{IsPossible}
use Rattle.css_span.specs.WallSpans.{wall_span}
use Rattle.css_companion.specs.Meanings.{timing_after}
use Rattle.css_companion.specs.Reports.{IsTimed, report_by}
use Rattle.css_companion.specs.Standing.{Companion, StandsFor, own_of, timing_now}
use Rattle.css_companion.specs.declared.knowledge.Timing.{Timing}
use Rattle.css_companion.specs.declared.report.Cause.{Cause}
use Rattle.css_companion.specs.declared.report.Report.{Report}
use Rattle.css_companion.specs.declared.report.Report.TheVariants as report
use Rattle.css_companion_c.specs.Codes.{DONE, RANGE, EARLY, NO_ANSWER, TOO_WIDE, cause_code, report_code}
use Rattle.css_companion_c.specs.declared.reading.Position.{Position}
use Rattle.css_companion_c.specs.declared.snapshot.SnapshotAnswer.{SnapshotAnswer}
use Rattle.css_companion_c.specs.declared.snapshot.Snapshot.{Snapshot}
pub use Rattle.css_companion_c.specs.declared.snapshot.TheConstants.{MOST_ANSWERS}

-- ---- what a snapshot tells
-- an answer
abbrev pub times_of : SnapshotAnswer → Answer
times_of kept = record {
  t1 = kept.t1;
  t2 = kept.t2;
  t3 = kept.t3;
  t4 = kept.t4;
  precision = kept.precision;
  error = kept.error;
}

-- the answers, the oldest first
abbrev pub answers_in : Snapshot → List Answer
answers_in snapshot = map times_of (take snapshot.count snapshot.answers)

-- the own clock
abbrev pub own_in : Snapshot → Local
own_in snapshot = record { error = snapshot.error; precision = snapshot.precision }

-- the timing
abbrev pub timing_in : Snapshot → Timing
timing_in snapshot = record {
  content = snapshot.content;
  wall = snapshot.wall;
  speed = snapshot.speed;
  rate = record { units_per_tick = snapshot.units_per_tick; units_per_second = snapshot.units_per_second };
}

-- the report at a reading
abbrev pub shown : Snapshot → ℕ → Report
shown snapshot reading =
    report_by (wall_span (own_in snapshot) reading (reverse (answers_in snapshot))) (Ok (timing_in snapshot))

-- what a position goes by
abbrev pub timing_at : Position → Timing
timing_at position = record {
  content = position.content;
  wall = position.wall;
  speed = position.speed;
  rate = record { units_per_tick = position.units_per_tick; units_per_second = position.units_per_second };
}

-- the position has the ticks of that report, and what they go by
pub record IsShownBy (snapshot : Snapshot) (reading : ℕ) (position : Position) : Type 0 where
  pub ticks : shown snapshot reading ≡ report.Ticks position.lo position.hi
  pub timing : timing_in snapshot ≡ timing_at position

-- ---- what a snapshot is of
-- all numbers are in range, and each answer is possible at each reading that may be handed
pub record IsInRange (snapshot : Snapshot) : Type 0 where
  pub own : IsLocal (own_in snapshot)
  pub count : snapshot.count ≤ MOST_ANSWERS
  pub possible : (reading : ℕ) → snapshot.floor ≤ reading
      → All (IsPossible (own_in snapshot) reading) (answers_in snapshot)
  pub timed : IsTimed (timing_in snapshot)
  pub rate : IsTickRate (timing_in snapshot).rate

-- each number alone is in range
pub record HasRanges (snapshot : Snapshot) : Type 0 where
  pub own : IsLocal (own_in snapshot)
  pub count : snapshot.count ≤ MOST_ANSWERS
  pub answers : All (λ kept. IsAnswer (times_of kept)) (take snapshot.count snapshot.answers)
  pub timed : IsTimed (timing_in snapshot)
  pub rate : IsTickRate (timing_in snapshot).rate

-- each number that the span of the wall clock goes by is
pub record HasAnswers (snapshot : Snapshot) : Type 0 where
  pub own : IsLocal (own_in snapshot)
  pub count : snapshot.count ≤ MOST_ANSWERS
  pub answers : All (λ kept. IsAnswer (times_of kept)) (take snapshot.count snapshot.answers)

-- What is answered at a reading that may be handed: RANGE, which is told of no copy of a companion, or the code of the
-- report, where each number is in range.
abbrev pub IsCodeOf : Snapshot → ℕ → ℕ → Type 0
IsCodeOf snapshot reading code =
    ((code ≡ RANGE) × (IsInRange snapshot → ⊥))
    ⊎ (HasRanges snapshot × (code ≡ report_code (shown snapshot reading)))

-- It is a copy of what the companion answers by: of its own clock, the least reading that may be handed, the kept
-- answers and the timing.
pub record IsSnapshotOf (snapshot : Snapshot) (companion : Companion) : Type 0 where
  pub own : own_of companion ≡ own_in snapshot
  pub floor : companion.client.floor ≡ snapshot.floor
  pub kept : reverse companion.client.estimate.kept ≡ answers_in snapshot
  pub timing : timing_now companion ≡ Ok (timing_in snapshot)
  pub meaning : (history : History) → StandsFor companion history
      → timing_after companion.setup.selector history ≡ Ok (timing_in snapshot)
  pub in_range : IsInRange snapshot

-- whether so many answers find room, beside a timing
abbrev pub kept_code : Result Timing Cause → ℕ → ℕ
kept_code (Err why) kept = cause_code why
kept_code (Ok timing) kept = if nat_le kept MOST_ANSWERS then DONE else TOO_WIDE

-- whether a snapshot can be taken
abbrev pub copied : Companion → ℕ
copied companion =
    if length companion.client.estimate.kept == 0 then NO_ANSWER
    else kept_code (timing_now companion) (length companion.client.estimate.kept)

-- RANGE or EARLY, or DONE where a companion with this floor can be handed the reading
abbrev pub at_floor : ℕ → ℕ → ℕ
at_floor floor reading = if nat_le LIMIT reading then RANGE else if nat_lt reading floor then EARLY else DONE

-- ---- for private clauses
-- the span of the wall clock
abbrev pub span_in : Snapshot → ℕ → Option Interval
span_in snapshot reading = wall_span (own_in snapshot) reading (reverse (answers_in snapshot))

-- why there is none
abbrev pub IsWhyNone : Snapshot → ℕ → ℕ → Type 0
IsWhyNone snapshot reading code =
    ((code ≡ NO_ANSWER) × (span_in snapshot reading ≡ None) × HasAnswers snapshot)
    ⊎ ((code ≡ RANGE) × (IsInRange snapshot → snapshot.floor ≤ reading → ⊥))
