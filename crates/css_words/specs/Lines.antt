-- How many lines a generated schedule has at least.
use Rattle.std.specs.Prelude.{ℕ, ◌+◌, ◌*◌, Option, Some, None}

-- The header, a line for each companion told, three lines of the television, and five that open the sessions of a
-- companion.
abbrev pub least_lines : Option ℕ → ℕ
least_lines None = 9
least_lines (Some count) = 4 + 6 * count
