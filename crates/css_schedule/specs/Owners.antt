-- Whose a line of a schedule is: a companion's, or the television's alone.
use Rattle.std.specs.Prelude.{ℕ, ◌==◌, ◌&&◌, ◌||◌, not, Bool, true, false}
use Rattle.css_schedule.specs.declared.line.Verb.{Verb}
use Rattle.css_schedule.specs.declared.line.Verb.TheVariants.{Ask, Land, Wall, Print, Opening, Bring, Up, Present}
use Rattle.css_schedule.specs.declared.line.Verb.TheVariants.{Close, Sleep}

-- a sleep, which version 1 doesn't know
abbrev pub is_sleep : Verb → Bool
is_sleep Sleep = true
is_sleep _ = false

-- a companion takes part in it
abbrev pub is_own : Verb → Bool
is_own (Ask reading) = true
is_own (Land datagram reading) = true
is_own (Wall reading) = true
is_own (Print reading) = true
is_own (Opening kind) = true
is_own (Bring kind) = true
is_own Up = true
is_own (Present earliest latest) = true
is_own (Close kind) = true
is_own Sleep = true
is_own _ = false

-- A line with the number 0 is the television's alone: it gives no companion's clock, and no companion takes part in it.
abbrev pub is_named : ℕ → ℕ → Verb → Bool
is_named who l verb = not (who == 0) || (l == 0 && not (is_own verb))
