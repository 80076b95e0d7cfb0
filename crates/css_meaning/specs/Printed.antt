-- The lines that are printed.
use Rattle.std.specs.Prelude.{ℕ, ℤ, List, [], ◌∷◌, ◌++◌, Option, Some, None, codes, decimal}
use Rattle.std.specs.Fmt.{signed_decimal}
use Rattle.css_num.specs.Spans.{Interval}

-- after a line's number and its name: the two ends of a span, and the place that it is at
abbrev pub ends_line : ℕ → List ℕ → ℤ → ℤ → List ℕ → List ℕ
ends_line number name lo hi place = decimal number ++ name ++ signed_decimal lo ++ codes " " ++ signed_decimal hi
    ++ codes " at " ++ place ++ 10 ∷ []

-- `N wall LO HI at W`: the span of the wall clock, and the value that the line gives it
abbrev pub wall_line : ℕ → Interval → ℕ → List ℕ
wall_line number span w = decimal number ++ codes " wall " ++ signed_decimal span.lo ++ codes " "
    ++ signed_decimal span.hi ++ codes " at " ++ decimal w ++ 10 ∷ []

-- `N none NoAnswer`
abbrev pub no_answer_line : ℕ → List ℕ
no_answer_line number = decimal number ++ (codes " none NoAnswer" ++ 10 ∷ [])

-- what is printed at `wall`
abbrev pub wall_text : ℕ → Option Interval → ℕ → List ℕ
wall_text number None w = no_answer_line number
wall_text number (Some span) w = wall_line number span w
