-- Which of the answers has an end of the span, and has it first.
use Rattle.std.specs.Prelude.{ℕ, ℤ, pos, ◌≡◌, ◌≤◌, ◌≤ℤ◌, ◌-ℤ◌, int_lt, nat_lt, if◌then◌else◌}
use Rattle.std.specs.Prelude.{List, [], ◌∷◌, Option, Some, None, option_map}
use Rattle.css_model.specs.WallClock.{Answer, Local, lower, upper}
use Rattle.css_agree.specs.declared.named.End.{End}
use Rattle.css_agree.specs.declared.named.End.TheVariants.{Low, High}
use Rattle.css_agree.specs.declared.named.Named.{Named}

-- how good an end is, before it is rounded: the greatest lower end and the least upper end are the best
abbrev pub measure : End → Local → Answer → ℕ → ℤ
measure Low own answer reading = lower own answer reading
measure High own answer reading = pos 0 -ℤ upper own answer reading

-- of two the one with the better end at the reading; of equals the one of the earlier line
abbrev pub chosen : End → Local → ℕ → Named → Named → Named
chosen end own reading first second =
    if int_lt (measure end own first.answer reading) (measure end own second.answer reading) then second
    else if int_lt (measure end own second.answer reading) (measure end own first.answer reading) then first
    else if nat_lt second.number first.number then second
    else first

-- one more, which comes later
abbrev pub chosen_of : End → Local → ℕ → Named → Option Named → Named
chosen_of end own reading newer None = newer
chosen_of end own reading newer (Some older) = chosen end own reading older newer

-- the one with the best end of some, the newest of which stands first
abbrev pub best_of : End → Local → ℕ → List Named → Option Named
best_of end own reading [] = None
best_of end own reading (newer ∷ older) = Some (chosen_of end own reading newer (best_of end own reading older))

-- its number
abbrev pub number_of_best : End → Local → ℕ → List Named → Option ℕ
number_of_best end own reading named = option_map (λ best. best.number) (best_of end own reading named)

-- At the reading the other's end isn't better, and if it is as good then its line isn't an earlier one.
pub record Leads (end : End) (own : Local) (reading : ℕ) (one other : Named) : Type 0 where
  pub best : measure end own other.answer reading ≤ℤ measure end own one.answer reading
  pub first : measure end own other.answer reading ≡ measure end own one.answer reading → one.number ≤ other.number
