-- What is promised of a companion behind a handle: the theorems of the crates below, for C.
use Rattle.std.specs.Prelude.{ℕ, ◌≡◌, List, [], Some, Ok}
use Rattle.css_model.specs.History.{History, accepted_answers}
use Rattle.css_span.specs.WallSpans.{wall_span}
use Rattle.css_client.specs.Standing.{ContainsTheWall}
use Rattle.css_companion.specs.Headline.{IsPromised}
use Rattle.css_companion.specs.Standing.{Companion, StandsFor, own_of, timing_now}
use Rattle.css_companion.specs.declared.report.Report.TheVariants as report
use Rattle.css_companion_c.specs.declared.reading.Ends.{Ends}
use Rattle.css_companion_c.specs.declared.reading.Position.{Position}

-- Where the old companion stands for a history that fits, the new one stands for it with what is added.
abbrev pub Adds : (History → Type 0) → (History → History) → Companion → Companion → Type 0
Adds Fits add old new = (history : History) → Fits history → StandsFor old history → StandsFor new (add history)

-- In each world that keeps the declared errors of both clocks and explains what the companion did, with this reading at
-- the end, the span contains the television's wall clock.
abbrev pub HoldsTheWall : ℕ → Ends → Companion → Type 0
HoldsTheWall reading span companion =
    ContainsTheWall companion.client reading (Some (record { lo = span.lo; hi = span.hi }))

-- the span is that of the narrowest accepted answer
abbrev pub IsTheWall : ℕ → Ends → Companion → Type 0
IsTheWall reading span companion = (history : History) → StandsFor companion history
    → wall_span (own_of companion) reading (accepted_answers (own_of companion) history)
    ≡ Some (record { lo = span.lo; hi = span.hi })

-- The headline. In each such world the ticks contain the position that the last control timestamp assigns to the
-- television's wall clock; they come from the narrowest accepted answer; and the state of the content was published.
abbrev pub HoldsThePosition : ℕ → Position → Companion → Type 0
HoldsThePosition reading position companion = (history : History) → StandsFor companion history
    → IsPromised (own_of companion) companion.setup.selector history reading (report.Ticks position.lo position.hi)

-- the rate and the speed with which the ticks go on
abbrev pub GoesWith : Position → Companion → Type 0
GoesWith position companion = timing_now companion ≡ Ok (record {
  content = position.content;
  wall = position.wall;
  speed = position.speed;
  rate = record { units_per_tick = position.units_per_tick; units_per_second = position.units_per_second };
})

-- a companion that was told nothing yet
pub record IsFresh (selector stem : List ℕ) (error precision : ℕ) (companion : Companion) : Type 0 where
  pub setup : companion.setup ≡ record { stem = stem; selector = selector }
  pub own : own_of companion ≡ record { error = error; precision = precision }
  pub floor : companion.client.floor ≡ 0
  pub stands : StandsFor companion []
