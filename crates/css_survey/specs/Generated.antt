-- The schedule that is generated of a seed for so many companions, and what is promised of its lines.
use Rattle.std.specs.Prelude.{ℕ, suc, zero, ◌+◌, ◌<◌, ◌==◌, if◌then◌else◌, List, [], ◌∷◌, ◌++◌}
use Rattle.css_meaning.specs.Happened.{Numbered}
use Rattle.css_meaning.specs.Verdicts.{IsDeclared}
use Rattle.css_meaning.specs.Accepted.{AreAccepted}
use Rattle.css_gen.specs.Generated.{text_in}
pub use Rattle.css_gen.specs.Generated.{header_for, heading, line_for}
use Rattle.css_gen.specs.Standing.{AreSome}

-- the first lines, so many of them, each with its line feed
abbrev pub schedule_text : (seed companions lines : ℕ) → List ℕ
schedule_text seed companions zero = []
schedule_text seed companions (suc lines) =
    schedule_text seed companions lines ++ (text_in seed companions (suc lines) ++ 10 ∷ [])

-- ---- the lines after the header
-- the version of the schedule
abbrev pub version_for : (companions : ℕ) → ℕ
version_for companions = if companions == 1 then 1 else 2

-- that line with its number
abbrev pub numbered_for : (seed companions number : ℕ) → Numbered
numbered_for seed companions number = record { number = number; line = line_for seed companions number }

-- the first lines after the header, so many of them; the newest stands first
unfoldable pub generated : (seed companions count : ℕ) → List Numbered
generated seed companions zero = []
generated seed companions (suc count) =
    numbered_for seed companions (heading companions + suc count) ∷ generated seed companions count

-- Each generated line is accepted after those before it, whatever the seed. Its numbers keep the tests of the clocks,
-- and what it says can happen.
pub record AreTaken (seed companions count : ℕ) : Type 0 where
  pub declared : IsDeclared (header_for companions)
  pub accepted : AreAccepted (header_for companions) (generated seed companions count)

-- so it is of the longest schedule, and of up to 16 companions
abbrev pub GeneratedLinesAreAccepted : Type 0
GeneratedLinesAreAccepted =
    (seed companions count : ℕ) → AreSome companions → count < 200000 → AreTaken seed companions count
