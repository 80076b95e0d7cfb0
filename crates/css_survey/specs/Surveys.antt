-- How a survey stands for the lines that it has taken.
use Rattle.std.specs.Prelude.{ℕ, ◌≡◌, ◌-◌, List}
use Rattle.css_meaning.specs.Happened.{Numbered}
use Rattle.css_world.specs.Standing as worlds
use Rattle.css_survey.specs.declared.surveyor.Surveyor.{Surveyor}
use Rattle.css_survey.specs.Generated.{generated, header_for, heading}
use Rattle.css_survey.specs.Surveyed.{told_of, summary_of}

-- The survey stands for these lines: so does its world, and it has counted what was told at them.
pub record Stands (survey : Surveyor) (lines : List Numbered) : Type 0 where
  pub world : worlds.StandsFor survey.world lines
  pub summary : survey.summary ≡ summary_of (told_of survey.world.header lines)

-- The survey has taken the lines of a seed that were given: the header, and each line after it.
pub record HasTaken (survey : Surveyor) (seed companions given : ℕ) : Type 0 where
  pub header : survey.world.header ≡ header_for companions
  pub stands : Stands survey (generated seed companions (given - heading companions))
