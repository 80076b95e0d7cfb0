-- What a spawner in memory was asked, and how its children ended.
use Rattle.std.specs.Prelude.{◌≡◌, ℕ, ◌+◌, ◌-◌, ℤ, pos, List, [], ◌∷◌, fold}
use Rattle.std.specs.Prelude.{Result, ◌↔◌, Contains}
use Rattle.css_outside.specs.declared.fault.OutFault.{OutFault}
use Rattle.css_outside.specs.Faults.{HasFailed}
use Rattle.css_outside.specs.Spawners.{Spawned, Started, Finished}
use Rattle.css_memory.specs.declared.memory_spawner.SpawnNote.{SpawnNote}
use Rattle.css_memory.specs.declared.memory_spawner.SpawnNote.TheVariants as note
use Rattle.css_memory.specs.Failing.{Failures, next_count}

-- how many children were started and haven't ended
abbrev pub running_of : List Spawned → ℕ
running_of [] = 0
running_of (Started words input ∷ told) = running_of told + 1
running_of (Finished status ∷ told) = running_of told - 1

abbrev pub spawned_by : SpawnNote → Spawned
spawned_by (note.Started words input) = Started words.items input
spawned_by (note.Finished status) = Finished status

-- what the calls did, the newest first; the notes of them have the oldest first
abbrev pub spawned_of : List SpawnNote → List Spawned
spawned_of notes = fold (λ told made. spawned_by made ∷ told) [] notes

-- the statuses that are still to be given, and what was done
pub record Spawning : Type 0 where
  pub statuses : List ℤ
  pub told : List Spawned
  pub failing : Failures

-- the next status: past the end of the list 0
abbrev pub next_status : List ℤ → ℤ
next_status [] = pos 0
next_status (status ∷ later) = status

-- a call fails exactly where its number stands in the list of those that do
abbrev pub SpawnFailsWhereTold : {T : Type 0} → Failures → Result T OutFault → Type 0
SpawnFailsWhereTold failing result = HasFailed result ↔ Contains failing.fails (next_count failing.calls)
