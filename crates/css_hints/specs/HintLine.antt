-- The form of a line that helps a person.
use Rattle.std.specs.Prelude.{◌≡◌, ◌≤◌, ℕ, List, [], ◌∷◌, ◌++◌, length, All}

-- printable in ASCII
pub record IsPrintable (byte : ℕ) : Type 0 where
  pub least : 32 ≤ byte
  pub most : byte ≤ 126

-- words that fit a line
pub record AreWords (words : List ℕ) : Type 0 where
  pub printable : All IsPrintable words
  pub short : length words ≤ 199

-- such words, and a line feed
pub record IsHintLine (line : List ℕ) : Type 0 where
  pub words : List ℕ
  pub fit : AreWords words
  pub ended : line ≡ words ++ 10 ∷ []
