-- When two control timestamps are equal.
use Rattle.std.specs.Prelude.{Bool, ℕ, ◌==◌, ℤ, Option, Some, None}
use Rattle.std.specs.Option.{option_eq}
use Rattle.std.specs.Ordering.{on, eq_of_both, int_eq}
use Rattle.css_num.specs.declared.control.Control.{Control}
use Rattle.css_num.specs.declared.control.Control.TheVariants.{Available, Unavailable}

-- the three numbers of a control timestamp: content time, wall time and speed
pub record Numbers : Type 0 where
  pub content : ℤ
  pub wall : ℕ
  pub speed : ℤ

-- the numbers, or none where the timeline isn't being presented
abbrev pub numbers_of : Control → Option Numbers
numbers_of (Available content wall speed) = Some (record { content = content; wall = wall; speed = speed })
numbers_of Unavailable = None

-- all three numbers agree
abbrev pub numbers_eq : Numbers → Numbers → Bool
numbers_eq =
    eq_of_both (on (λ numbers. numbers.content) int_eq)
    (eq_of_both (on (λ numbers. numbers.wall) ◌==◌) (on (λ numbers. numbers.speed) int_eq))

-- both timelines aren't being presented, or all three numbers agree
abbrev pub control_eq : Control → Control → Bool
control_eq = on numbers_of (option_eq numbers_eq)
