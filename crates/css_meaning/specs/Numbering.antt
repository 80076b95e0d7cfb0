-- Items that are numbered from 1 in the order of their coming.
use Rattle.std.specs.Prelude.{ℕ, zero, suc, ◌==◌, if◌then◌else◌, List, [], ◌∷◌, length, Option, Some, None}
use Rattle.std.specs.Prelude.{slice_get, slice_set}

-- the item of that number, of a list with the newest first
abbrev pub numbered : {A : Type 0} → ℕ → List A → Option A
numbered number [] = None
numbered number (item ∷ older) = if number == suc (length older) then Some item else numbered number older

-- ---- the oldest first
-- the place of the item of that number
abbrev pub place_of : ℕ → Option ℕ
place_of zero = None
place_of (suc place) = Some place

-- the item of that number, of a list with the oldest first
abbrev pub stored : {A : Type 0} → List A → ℕ → Option A
stored items zero = None
stored items (suc place) = slice_get items place

-- the items, where the one of that number is taken out
abbrev pub spent : {A : Type 0} → List (Option A) → ℕ → List (Option A)
spent items zero = items
spent items (suc place) = slice_set items place None
