-- What the exponent of a precision stands for.
use Rattle.std.specs.Prelude.{ℕ, suc, ◌≡◌, ◌≤◌, ◌<◌, ◌+◌, ◌*◌, ◌^◌, ℤ, pos, negsuc}
use Rattle.css_model.specs.Wire.{second}

-- the nanoseconds are 10^9 * 2^exponent, rounded up: at least that many, and less than one more
abbrev pub IsRoundedUp : ℤ → ℕ → Type 0
IsRoundedUp (pos k) nanoseconds = nanoseconds ≡ second * 2 ^ k
IsRoundedUp (negsuc k) nanoseconds = (second ≤ nanoseconds * 2 ^ suc k) × (nanoseconds * 2 ^ suc k < second + 2 ^ suc k)
