-- Which lines of a schedule are accepted.
use Rattle.std.specs.Prelude.{ℕ, ◌≡◌, ◌<◌, List, [], ◌∷◌, length, Ok}
use Rattle.css_schedule.specs.Ranges.{IsLine, IsSecond}
use Rattle.css_schedule.specs.declared.header.Header.{Header}
use Rattle.css_meaning.specs.Happened.{Numbered}
use Rattle.css_meaning.specs.Verdicts.{line_meant}

-- the line comes after the last one
abbrev pub IsNext : ℕ → List Numbered → Type 0
IsNext number [] = Unit {0}
IsNext number (last ∷ older) = last.number < number

-- Each line was accepted after those before it: it is in range, of one of the companions or of the television alone,
-- and printed.
abbrev pub AreAccepted : Header → List Numbered → Type 0
AreAccepted header [] = Unit {0}
AreAccepted header (now ∷ older) =
    IsLine now.line × IsSecond (length header.companions) now.line × IsNext now.number older
    × ((printed : List ℕ) × (line_meant header older now ≡ Ok printed))
    × AreAccepted header older
