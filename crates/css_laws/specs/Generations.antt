-- What is promised of generated schedules: a replay accepts them, and prints what a survey counts.
use Rattle.std.specs.Prelude.{ℕ, ◌≡◌, ◌≤◌}
use Rattle.css_lines.specs.Meaning.{outcome, accepted}
use Rattle.css_gen.specs.Standing.{AreSome}
use Rattle.css_survey.specs.Generated.{schedule_text, heading}
use Rattle.css_survey.specs.Surveyed.{told_text, told_in}
use Rattle.css_replay.specs.Replayed.{replayed}

-- A replay of a generated schedule refuses no line, and prints the lines of these reports.
abbrev pub GeneratedSchedulesAreReplayed : Type 0
GeneratedSchedulesAreReplayed = (seed companions lines : ℕ) → AreSome companions → heading companions ≤ lines
    → lines ≤ 200000
    → outcome replayed (schedule_text seed companions lines) ≡ accepted (told_text (told_in seed companions lines))
