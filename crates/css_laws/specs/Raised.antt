-- What becomes of a schedule and of its migration: line 1 becomes two lines, so the number of each line is raised by
-- one.
use Rattle.std.specs.Prelude.{ℕ, ◌+◌, ◌≡◌, List, None}
use Rattle.std.specs.List.{flat_map}
use Rattle.std.specs.Option.{option_map}
use Rattle.css_lines.specs.Meaning.{Outcome, outcome}
use Rattle.css_lines.specs.declared.reader.Refusal.{Refusal}
use Rattle.css_lines.specs.declared.reader.Refusal.TheVariants.{Long, Refused}
use Rattle.css_migrate.specs.Migrated.{migrated}
use Rattle.css_replay.specs.Replayed.{replayed}
use Rattle.css_replay.specs.declared.reader.Cause.{Cause}
use Rattle.css_replay.specs.declared.reader.Cause.TheVariants.{Form, Absent, Player, Broken}
use Rattle.css_laws.specs.Numbers.{Said, said_text}

-- the earlier line that a cause names has its number raised by one
abbrev pub raised_cause : Cause → Cause
raised_cause Form = Form
raised_cause Absent = Absent
raised_cause (Player fault) = Player fault
raised_cause (Broken earlier excess) = Broken (earlier + 1) excess

abbrev pub raised_refusal : Refusal Cause → Refusal Cause
raised_refusal Long = Long
raised_refusal (Refused cause) = Refused (raised_cause cause)

-- so has the line that is refused
abbrev pub raised_verdict : ℕ × Refusal Cause → ℕ × Refusal Cause
raised_verdict verdict = (verdict.0 + 1, raised_refusal verdict.1)

-- what is said at lines of these numbers, and the same with each number raised by one
abbrev pub said_texts : List (ℕ × Said) → List ℕ
said_texts said = flat_map (λ line. said_text line.0 line.1) said

abbrev pub raised_texts : List (ℕ × Said) → List ℕ
raised_texts said = flat_map (λ line. said_text (line.0 + 1) line.1) said

-- The second outcome is the first one with the number of each line that is printed or told raised by one.
pub record IsRaised (first second : Outcome Cause) : Type 0 where
  pub said : List (ℕ × Said)
  pub printed : first.printed ≡ said_texts said
  pub raised : second.printed ≡ raised_texts said
  pub verdict : second.verdict ≡ option_map raised_verdict first.verdict

-- Where a schedule of version 1 is migrated, a replay of what it becomes says the same as a replay of the schedule,
-- with the number of each line raised by one.
abbrev pub MigratedSchedulesAreReplayedAlike : Type 0
MigratedSchedulesAreReplayedAlike = (bytes : List ℕ) → (outcome migrated bytes).verdict ≡ None
    → IsRaised (outcome replayed bytes) (outcome replayed (outcome migrated bytes).printed)
