-- When a run is over that nothing else ends.
use Rattle.std.specs.Prelude.{ℕ, ◌+◌, ◌*◌, ◌≤◌, nat_le, Bool, false}
use Rattle.std.specs.Coded.{×_prop, le_prop}
use Rattle.css_outside.specs.declared.limit.Limit.{Limit}
use Rattle.css_outside.specs.declared.limit.Limit.TheVariants as limit

-- how many turns it has at most
abbrev pub most_turns : Limit → ℕ
most_turns (limit.Turns turns) = turns
most_turns (limit.Seconds seconds) = 1099511627776

-- The turn that begins at this reading is the last by its time, where the first one began at `first`.
abbrev pub is_over : Limit → ℕ → ℕ → Bool
is_over (limit.Turns turns) first reading = false
is_over (limit.Seconds seconds) first reading = nat_le (first + seconds * 1000000000) reading

-- the range of a limit
abbrev pub IsLimit : Limit → Type 0
IsLimit (limit.Turns turns) = (1 ≤ turns) × (turns ≤ 1000000)
IsLimit (limit.Seconds seconds) = (1 ≤ seconds) × (seconds ≤ 31536000)

-- it is known in one way, as a field of a struct wants it
pub IsLimit-prop : (bound : Limit) → IsProp (IsLimit bound)
IsLimit-prop (limit.Turns turns) = ×_prop le_prop le_prop
IsLimit-prop (limit.Seconds seconds) = ×_prop le_prop le_prop
