-- How the logic stores what children did.
use Rattle.std.specs.Prelude.{◌≡◌, ◌⊎◌, ℕ, ℤ, List, refl}
use Rattle.std.specs.Coded.{Coded, code_by, coded×, coded⊎, coded_ℕ, coded_ℤ, coded_list}
use mathlib.Core.Logic.{inl, inr}
use Rattle.css_outside.specs.Spawners.{Spawned, Started, Finished}

abbrev Parts : Type 0
Parts = (List (List ℕ) × List ℕ) ⊎ ℤ

abbrev to_parts : Spawned → Parts
to_parts (Started words input) = inl (words, input)
to_parts (Finished status) = inr status

abbrev from_parts : Parts → Spawned
from_parts (inl both) = Started both.0 both.1
from_parts (inr status) = Finished status

pub from_parts-to_parts : (child : Spawned) → from_parts (to_parts child) ≡ child
from_parts-to_parts (Started words input) = refl
from_parts-to_parts (Finished status) = refl

abbrev pub children_code : Coded (List Spawned)
children_code =
    coded_list (code_by Parts (coded⊎ (coded× (coded_list (coded_list coded_ℕ)) (coded_list coded_ℕ)) coded_ℤ)
    to_parts from_parts from_parts-to_parts)
