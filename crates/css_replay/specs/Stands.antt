-- How the reader of a replay stands for the lines that it has taken.
use Rattle.std.specs.Prelude.{ℕ, ◌≡◌, ◌<◌, ◌≤◌, ◌==◌, if◌then◌else◌, List, [], length, Option, Some, None, Result}
use Rattle.std.specs.Prelude.{Ok, Err, MatchResult}
use Rattle.css_lines.specs.Answers.{MayFault}
use Rattle.css_lines.specs.declared.reader.LineFault as engine
use Rattle.css_lines.specs.declared.reader.LineFault.TheVariants as told
use Rattle.css_schedule.specs.declared.fault.LineFault.{LineFault}
use Rattle.css_schedule.specs.declared.fault.LineFault.TheVariants as unread
use Rattle.css_schedule.specs.declared.header.Header.{Header}
use Rattle.css_schedule.specs.Headers.{max_companions}
use Rattle.css_schedule.specs.Ranges.{IsGoodHeader, IsVersion, FitsFirst}
use Rattle.css_meaning.specs.declared.fault.WorldFault.{WorldFault}
use Rattle.css_meaning.specs.declared.fault.WorldFault.TheVariants as refused
use Rattle.css_meaning.specs.Happened.{Numbered}
use Rattle.css_meaning.specs.Accepted.{IsNext}
use Rattle.css_meaning.specs.Verdicts.{IsDeclared}
use Rattle.css_world.specs.Standing.{World, StandsFor}
use Rattle.css_replay.specs.declared.reader.Cause.{Cause}
use Rattle.css_replay.specs.declared.reader.Cause.TheVariants.{Form, Absent, Player, Broken}
use Rattle.css_replay.specs.declared.reader.Replay.{Replay}
use Rattle.css_replay.specs.Replayed.{Extent, Outset, Opening, Running, reached, after, meant_at}

-- what the engine is told of a line that was not read
abbrev pub unread_fault : LineFault → engine.LineFault Cause
unread_fault unread.Form = told.Refused Form
unread_fault unread.Memory = told.Memory

-- what it is told of one that was carried out, or was not
abbrev pub told_of : Result (Unit {0}) WorldFault → Result (Unit {0}) (engine.LineFault Cause)
told_of (Ok done) = Ok done
told_of (Err (refused.Broken earlier excess)) = Err (told.Refused (Broken earlier excess))
told_of (Err refused.Absent) = Err (told.Refused Absent)
told_of (Err (refused.Player fault)) = Err (told.Refused (Player fault))
told_of (Err refused.Memory) = Err told.Memory

-- ---- what is known of any schedule, as far as it is read
-- The header of version 2 has fewer companions than the schedule.
pub record IsPart (header : Header) (count : ℕ) : Type 0 where
  pub good : IsGoodHeader header
  pub more : length header.companions < count
  pub few : count ≤ max_companions

-- The header is whole, and the line of this number comes after these lines.
pub record IsWhole (number : ℕ) (header : Header) (version : ℕ) (lines : List Numbered) : Type 0 where
  pub declared : IsDeclared header
  pub known : IsVersion version
  pub fits : FitsFirst (version == 1) (length header.companions)
  pub next : IsNext number lines

-- the line of this number comes next
abbrev pub IsWell : ℕ → Extent → Type 0
IsWell number (Opening header count) = IsPart header count
IsWell number (Running header version lines) = IsWhole number header version lines
IsWell number _ = Unit {0}

-- ---- how far the reader has read
-- where a header stands: it is whole, or more companions are to come
abbrev pub stage_of : Header → Replay → Extent
stage_of header replay =
    if length header.companions == replay.companions then Running header replay.version []
    else Opening header replay.companions

-- The header was read, of that version and so many companions, and its world stands for the lines after it.
pub record RunsAt (world : World) (version companions : ℕ) (extent : Extent) : Type 0 where
  pub lines : List Numbered
  pub is : extent ≡ Running world.header version lines
  pub count : companions ≡ length world.header.companions
  pub stands : StandsFor world lines

-- with a header and its world, with a part of a header of version 2, or with none of it
abbrev pub IsAt : Option Header → Option World → ℕ → ℕ → Extent → Type 0
IsAt header (Some world) version companions extent = RunsAt world version companions extent
IsAt (Some header) None version companions extent = (extent ≡ Opening header companions) × (version ≡ 2)
IsAt None None version companions extent = (extent ≡ Outset) × (version ≡ 1)

-- the reader has read so far
abbrev pub StandsAt : Replay → Extent → Type 0
StandsAt replay extent = IsAt replay.header replay.world replay.version replay.companions extent

-- the reader stands for these texts
abbrev pub Stands : Replay → List (List ℕ) → Type 0
Stands replay texts = StandsAt replay (reached texts)

-- ---- calls
-- one text more of the header was read, and this holds of how far that is, or it was told why it is none
abbrev pub ReadsOn : {T : Type 0} → Extent → List ℕ → Result T LineFault → (Extent → T → Type 0) → Type 0
ReadsOn extent text result P = (number : ℕ) → MatchResult result
    (λ value. (meant_at number extent text ≡ Ok []) × P (after number extent text) value)
    (λ fault. MayFault (meant_at number extent text) (unread_fault fault))
