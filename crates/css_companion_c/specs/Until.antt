-- Up to which reading the television's wall clock is known narrowly enough.
use Rattle.std.specs.Prelude.{ℕ, ◌≡◌, ◌+◌, ◌-◌, ◌*◌, ℤ, pos, ◌-ℤ◌, ◌*ℤ◌, ◌≤ℤ◌, ◌<ℤ◌, ◌≤◌, ◌<◌, ◌==◌, ◌↔◌}
use Rattle.std.specs.Prelude.{List, length, All, Bool, true, false, if◌then◌else◌}
use Rattle.std.specs.Prelude.{Option, Some, None, min, max, unwrap_or}
use Rattle.css_num.specs.Spans.{Interval}
use Rattle.css_model.specs.declared.TheConstants.{F, LIMIT}
use Rattle.css_model.specs.WallClock.{Answer, Local, scaled_width}
use Rattle.css_model.specs.History.{History, accepted_answers}
use Rattle.css_span.specs.WallSpans.{wall_span}
use Rattle.css_companion.specs.Standing.{Companion, StandsFor, own_of}
use Rattle.css_companion_c.specs.Codes.{DONE, NO_ANSWER}
use Rattle.css_companion_c.specs.Handles.{AnswerAlike}
use Rattle.css_companion_c.specs.Promises.{IsTheWall}
use Rattle.css_companion_c.specs.declared.follower.Follower.{Follower}
use Rattle.css_companion_c.specs.declared.reading.Ends.{Ends}
pub use Rattle.css_companion_c.specs.declared.until.TheConstants.{WAIT, SOONEST}

-- ---- what is told
-- whether an answer is kept
abbrev pub any_kept : Companion → ℕ
any_kept companion = if length companion.client.estimate.kept == 0 then NO_ANSWER else DONE

-- ---- what is promised
-- there is a span, at most so many nanoseconds wide
abbrev pub IsNarrow : ℕ → Option Interval → Type 0
IsNarrow width None = ⊥
IsNarrow width (Some span) = (span.hi -ℤ span.lo) ≤ℤ pos width

-- At each reading that may be handed, up to the last one, the wall clock's span is at most so wide.
pub record IsNarrowUntil (width last : ℕ) (companion : Companion) : Type 0 where
  pub later : companion.client.floor ≤ last
  pub range : last < LIMIT
  pub narrow : (reading : ℕ) → companion.client.floor ≤ reading → reading ≤ last → (history : History)
      → StandsFor companion history
      → IsNarrow width (wall_span (own_of companion) reading (accepted_answers (own_of companion) history))

-- One nanosecond less than the width, as a scaled width. Rounding both ends outward adds less than 2 ns.
abbrev pub limit_of : ℕ → Local → ℤ
limit_of width own = (pos width -ℤ pos 1) *ℤ pos ((F + own.error) * (F - own.error))

-- The span of an answer is wider than one nanosecond less than the width, before its ends are rounded.
abbrev pub IsWide : Local → ℕ → ℕ → Answer → Type 0
IsWide own width reading answer = limit_of width own <ℤ scaled_width own answer reading

-- At a reading in range that of each kept answer is.
abbrev pub IsWideAt : ℕ → ℕ → Companion → Type 0
IsWideAt width reading companion = reading < LIMIT
    → All (IsWide (own_of companion) width reading) companion.client.estimate.kept

-- So up to such a reading the span that is told is at most so wide, also by a companion that answers alike.
abbrev pub BoundsTheWall : Type 0
BoundsTheWall = (width last reading : ℕ) (span : Ends) (old new : Companion) (before after : History)
    → IsNarrowUntil width last old → old.client.floor ≤ reading → reading ≤ last → AnswerAlike old new
    → StandsFor old before → StandsFor new after → IsTheWall reading span new → (span.hi -ℤ span.lo) ≤ℤ pos width

-- the last reading up to which the span is at most so wide, or none, where it is wider already
abbrev pub IsLastNarrow : ℕ → Option ℕ → Companion → Type 0
IsLastNarrow width (Some last) companion = IsNarrowUntil width last companion × IsWideAt width (last + 1) companion
IsLastNarrow width None companion = IsWideAt width companion.client.floor companion

-- a reading so long after another, up to the greatest number of 64 bits
abbrev pub later : ℕ → ℕ → ℕ
later reading wait = min (reading + wait) 18446744073709551615

-- From which reading a request is due: at once where none was sent since the last sleep; a second after the last one
-- where no answer to it was accepted; else where the span becomes wider, and no sooner than 100 ms after the last one.
abbrev pub IsDueBy : ℕ → ℕ → Companion → Option ℕ → Bool → Type 0
IsDueBy width due companion None answered = due ≡ companion.client.floor
IsDueBy width due companion (Some asked) false = due ≡ later asked WAIT
IsDueBy width due companion (Some asked) true =
    (last : Option ℕ) × IsLastNarrow width last companion × (due ≡ max (later asked SOONEST) (unwrap_or last 0))

abbrev pub IsDue : ℕ → ℕ → Follower → Type 0
IsDue width due follower = IsDueBy width due follower.companion follower.asked follower.answered

-- ---- for private clauses
-- From this reading on, of those from the floor on, the spans of all answers are too wide.
pub record IsWideFrom (own : Local) (width floor : ℕ) (answers : List Answer) (from : ℤ) : Type 0 where
  pub later : pos floor ≤ℤ from
  pub wide : (reading : ℕ) → floor ≤ reading → reading < LIMIT
      → (from ≤ℤ pos reading) ↔ All (IsWide own width reading) answers
