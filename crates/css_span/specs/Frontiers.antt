-- What is kept of the answers that were accepted. In each list of answers the newest stands first.
use Rattle.std.specs.Prelude.{ℕ, suc, ◌≡◌, ◌*◌, ◌^◌, ◌≤◌, ◌<◌, ◌⊎◌, ⊤, pos, ◌≤ℤ◌, List, [], ◌∷◌, Bool, false, ◌==◌}
use Rattle.std.specs.Prelude.{◌||◌, if◌then◌else◌, All, max}
use Rattle.css_model.specs.Wire.{second}
use Rattle.css_model.specs.WallClock.{Answer, Local, IsLocal, IsAnswer, scaled_width, HaveSameNarrowest}

abbrev pub Answers : Type 0
Answers = List Answer

-- the companion's own clock, the answers that are kept, and the least reading that may be handed next
pub record Frontier : Type 0 where
  pub local : Local
  pub kept : Answers
  pub floor : ℕ

-- the answer's fields are in range, and its scaled width at the reading isn't below zero
pub record IsPossible (own : Local) (reading : ℕ) (answer : Answer) : Type 0 where
  pub ranges : IsAnswer answer
  pub wide : pos 0 ≤ℤ scaled_width own answer reading

-- what is always true of a frontier
pub record IsFrontier (frontier : Frontier) : Type 0 where
  pub local : IsLocal frontier.local
  pub floor : frontier.floor < 2 ^ 32 * second
  pub kept : All (IsPossible frontier.local frontier.floor) frontier.kept

-- whether one of the answers declares the error
abbrev pub declares : ℕ → Answers → Bool
declares error [] = false
declares error (answer ∷ older) = (answer.error == error) || declares error older

-- how many different errors the answers declare
abbrev pub error_count : Answers → ℕ
error_count [] = 0
error_count (answer ∷ older) = if declares answer.error older then error_count older else suc (error_count older)

-- the greatest error that the answers declare, 0 where there are none
abbrev pub greatest_error : Answers → ℕ
greatest_error [] = 0
greatest_error (answer ∷ older) = max answer.error (greatest_error older)

-- no two of the answers declare the same error
abbrev pub DeclareDifferent : Answers → Type 0
DeclareDifferent [] = ⊤
DeclareDifferent (answer ∷ older) = (declares answer.error older ≡ false) × DeclareDifferent older

-- the answers of the first list are among those of the second, in their order
abbrev pub AreAmong : Answers → Answers → Type 0
AreAmong [] accepted = ⊤
AreAmong (answer ∷ older) [] = ⊥
AreAmong (answer ∷ older) (newest ∷ accepted) = ((answer ≡ newest) × AreAmong older accepted)
    ⊎ AreAmong (answer ∷ older) accepted

-- The frontier is what is kept of the accepted answers: at every reading the narrowest of the kept is the narrowest of
-- the accepted; the kept are among the accepted, in their order; the same errors are declared, and by one kept answer
-- each; and each accepted answer was possible.
pub record StandsFor (frontier : Frontier) (accepted : Answers) : Type 0 where
  pub narrowest : HaveSameNarrowest frontier.local frontier.kept accepted
  pub among : AreAmong frontier.kept accepted
  pub errors : (error : ℕ) → declares error frontier.kept ≡ declares error accepted
  pub different : DeclareDifferent frontier.kept
  pub possible : All (IsPossible frontier.local frontier.floor) accepted

-- the answer is accepted at the reading: what stood for a list stands for the list with the answer
pub record Accepts (old new : Frontier) (answer : Answer) (reading : ℕ) : Type 0 where
  pub local : new.local ≡ old.local
  pub floor : new.floor ≡ reading
  pub stands : (accepted : Answers) → StandsFor old accepted → StandsFor new (answer ∷ accepted)

-- the same of the kept answers alone, and all of them stay possible
pub record KeepsFrontier (own : Local) (reading : ℕ) (answer : Answer) (old new : Answers) : Type 0 where
  pub possible : All (IsPossible own reading) old → All (IsPossible own reading) new
  pub stands : (floor : ℕ) (accepted : Answers) → floor ≤ reading → IsLocal own
      → StandsFor (record { local = own; kept = old; floor = floor }) accepted
      → StandsFor (record { local = own; kept = new; floor = reading }) (answer ∷ accepted)
