-- What holds of a history holds of what came before.
use Rattle.std.proofs.Common.{◌≡◌, ℕ, false, ◌∷◌, ◌++◌, refl}
use Rattle.std.specs.Prelude.{Option, Some, None}
use Rattle.std.specs.Option.{option_to_list}
use Rattle.css_model.specs.WallClock.{Answer, Local}
use Rattle.css_model.specs.World.{World}
use Rattle.css_model.specs.History.{Entry, History, is_sleep, LandedAnswer, landed_answer, landed_answers}
use Rattle.css_model.specs.History.{possible_answer, possible_answers, accepted_answers}
use Rattle.css_model.specs.Explains.{IsLawful, HappensIn, Explains}

-- what came before a lawful history's newest entry is lawful
pub IsLawful-older : (entry : Entry) (older : History) → IsLawful (entry ∷ older) → IsLawful older
IsLawful-older entry older h = record { rises = h.rises.1; asks = h.asks.1 }

-- and happens in the same world
pub HappensIn-older : (world : World) (who : ℕ) (own : Local) (entry : Entry) (older : History) (moment_of : ℕ → ℕ)
    → HappensIn world who own (entry ∷ older) moment_of → HappensIn world who own older moment_of
HappensIn-older world who own entry older moment_of h = record { in_order = h.in_order; reads = h.reads.1 }

-- and is explained by it
pub Explains-older : (world : World) (who tv_error : ℕ) (own : Local) (entry : Entry) (older : History)
    (moment_of : ℕ → ℕ)
    → Explains world who tv_error own (entry ∷ older) moment_of → Explains world who tv_error own older moment_of
Explains-older world who tv_error own entry older moment_of h =
    record { happens = HappensIn-older world who own entry older moment_of h.happens; truthful = h.truthful.1 }

-- an entry that is no sleep leaves every accepted answer accepted, and adds one at most
pub accepted_answers-awake : (own : Local) (entry : Entry) (older : History) → is_sleep entry ≡ false
    → (newest : Option Answer) × (accepted_answers own (entry ∷ older) ≡ option_to_list newest
    ++ accepted_answers own older)
accepted_answers-awake own entry older awake = rw awake (by (landed_answer entry older))
  where
    by : (o : Option LandedAnswer) → (newest : Option Answer)
        × (possible_answers own (option_to_list o ++ landed_answers older) ≡ option_to_list newest
        ++ accepted_answers own older)
    by None = (None, refl)
    by (Some landed) = (possible_answer own landed (landed_answers older), refl)
