-- When two timelines are equal.
use Rattle.std.specs.Prelude.{Bool, ◌==◌, List}
use Rattle.std.specs.Ordering.{on, eq_of_both}
use Rattle.std.specs.Cmp.Lexicographic.{pointwise}
use Rattle.css_num.specs.Rates.{TickRate}
use Rattle.css_num.specs.declared.timeline.Timeline.{Timeline}

-- both parts of two rates are equal
abbrev pub rate_eq : TickRate → TickRate → Bool
rate_eq = eq_of_both (on (λ rate. rate.units_per_tick) ◌==◌) (on (λ rate. rate.units_per_second) ◌==◌)

-- two timelines have one selector and one rate
abbrev pub timeline_eq : Timeline → Timeline → Bool
timeline_eq = eq_of_both (on (λ timeline. timeline.selector) (pointwise ◌==◌)) (on (λ timeline. timeline.rate) rate_eq)

-- two lists have equal timelines in the same places
abbrev pub timelines_eq : List Timeline → List Timeline → Bool
timelines_eq = pointwise timeline_eq
