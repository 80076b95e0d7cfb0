-- What a spawner was asked, and how its children ended.
use Rattle.std.specs.Prelude.{◌≡◌, ℕ, ℤ, List, ◌∷◌, Option, Result, MatchResult}
use Rattle.std.specs.Option.{option_map}
use Rattle.css_outside.specs.declared.fault.OutFault.{OutFault}

-- a child was started with these words and this standard input, or one ended with this status
pub data Spawned : Type 0 where
  Started : (words : List (List ℕ)) → (input : List ℕ) → Spawned
  Finished : (status : ℤ) → Spawned

-- a call that is Ok adds what it did, and any other call adds nothing
abbrev pub TellsSpawned : {T : Type 0} → Option (List Spawned) → Option (List Spawned)
    → Result T OutFault → (T → Spawned) → Type 0
TellsSpawned before now result did =
    MatchResult result (λ answer. now ≡ option_map (λ told. did answer ∷ told) before) (λ _. now ≡ before)
