-- What the devices in memory tell, and how many bytes a call of theirs takes.
use Rattle.std.specs.Prelude.{ℕ, min, List, length}

-- the bytes that are still to come, and the most that one call gives
pub record BytesLeft : Type 0 where
  pub left : List ℕ
  pub piece : ℕ

-- the bytes that were given, and the most that one call takes
pub record BytesHeld : Type 0 where
  pub holds : List ℕ
  pub piece : ℕ

-- how many bytes a read gives: the least of the piece, the room and what is left
abbrev pub read_count : ℕ → ℕ → List ℕ → ℕ
read_count piece room left = min (min piece room) (length left)
