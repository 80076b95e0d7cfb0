-- What is kept of the answers that were added. In each list of answers the newest stands first.
use Rattle.std.specs.Prelude.{ℕ, ◌≡◌, ◌<◌, ◌*◌, ◌^◌, max, List, ◌∷◌, All}
use Rattle.css_model.specs.Wire.{second}
use Rattle.css_model.specs.WallClock.{Answer, Local, IsLocal}
use Rattle.css_span.specs.Frontiers.{Answers, IsPossible}
use Rattle.css_agree.specs.Bests.{HasPlace, bests_of, undone}
use Rattle.css_agree.specs.declared.agree.Added.{Added}
use Rattle.css_agree.specs.declared.best.Best.{Best}

-- The companion's own clock, what is kept, and the greatest reading at which an answer was added, 0 where none was.
-- Each answer is possible at this reading and later.
pub record Kept : Type 0 where
  pub local : Local
  pub bests : List Best
  pub floor : ℕ

-- it holds of both answers
pub record OfBoth (P : Answer → Type 0) (best : Best) : Type 0 where
  pub low : P best.low
  pub high : P best.high

-- what is always true of what is kept
pub record IsKept (kept : Kept) : Type 0 where
  pub local : IsLocal kept.local
  pub floor : kept.floor < 2 ^ 32 * second
  pub possible : All (OfBoth (IsPossible kept.local kept.floor)) kept.bests

-- What is kept stands for the answers added: it is what is kept of them by their ends at one reading, whichever that
-- is, and each of them was possible.
pub record StandsFor (kept : Kept) (added : Answers) : Type 0 where
  pub exact : (reading : ℕ) → kept.bests ≡ bests_of kept.local reading added
  pub possible : All (IsPossible kept.local kept.floor) added

-- the answer is added at the reading: what stood for a list stands for the list with the answer
pub record Adds (old new : Kept) (answer : Answer) (reading : ℕ) : Type 0 where
  pub local : new.local ≡ old.local
  pub floor : new.floor ≡ max old.floor reading
  pub stands : (added : Answers) → StandsFor old added → StandsFor new (answer ∷ added)

-- what was kept before an answer was added
abbrev pub before : Added → Kept → Kept
before added kept = record kept { bests = undone added.replaced kept.bests; floor = added.floor }

-- the answer that was added last can be taken back
pub record CanGoBack (added : Added) (kept : Kept) : Type 0 where
  pub place : HasPlace added.replaced kept.bests
  pub valid : IsKept (before added kept)

-- it can, and then it is as before
pub record GoesBack (added : Added) (new old : Kept) : Type 0 where
  pub can : CanGoBack added new
  pub back : before added new ≡ old
