-- What may be asked of a companion of a world.
use Rattle.std.specs.Prelude.{◌≡◌, ◌≤◌, ℕ, Some, List}
use Rattle.css_companion.specs.Standing.{Companion, own_of}
use Rattle.css_meaning.specs.Clocks.{least_next, last_reading, has_woken}
use Rattle.css_meaning.specs.Happened.{Numbered}
use Rattle.css_meaning.specs.Numbering.{stored}
use Rattle.css_meaning.specs.Sessions.{setup_of}
use Rattle.css_meaning.specs.Verdicts.{local_of, seen_of}
use Rattle.css_meaning.specs.Truth.{IsCompanionOf}
use Rattle.css_world.specs.Standing.{World}
use Rattle.css_world.specs.declared.lane.Lane.{Lane}

-- This is companion `who` of the world, which the header has. It takes its own clock for what the header declares of
-- it, and asks the television for what is wanted there. It may be asked for a report at the last reading of its clock
-- and at each later one; where it slept since, above that reading.
pub record MayBeAsked (world : World) (lines : List Numbered) (who : ℕ) (companion : Companion) : Type 0 where
  pub number : IsCompanionOf world.header who
  pub lane : Lane
  pub is : stored world.ends.lanes.list.items who ≡ Some lane
  pub same : companion ≡ lane.companion
  pub own : own_of companion ≡ local_of who world.header
  pub setup : companion.setup ≡ setup_of who world.header
  pub floor : companion.client.floor ≤ least_next (has_woken (seen_of who lines)) (last_reading (seen_of who lines))
