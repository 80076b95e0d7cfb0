-- How a device counts its faults.
use Rattle.std.specs.Prelude.{◌≡◌, ℕ, ◌+◌, ◌-◌, ◌^◌, ◌<◌, ◌≤◌, Result, Ok, Err, MatchResult, ⊤}
use Rattle.css_outside.specs.declared.fault.Failed as plain
use Rattle.css_outside.specs.declared.fault.OutFault.{OutFault}
use Rattle.css_outside.specs.declared.fault.OutFault.TheVariants.{Failed, Memory}

-- the count has risen, but for one that stood at its greatest value, and hasn't fallen
pub record HasRisen (before now : ℕ) : Type 0 where
  pub kept : before ≤ now
  pub risen : before < 2 ^ 64 - 1 → before < now

-- It has risen by one. So no other call failed since; and as each call can fail, none was made.
pub record HasRisenOnce (before now : ℕ) : Type 0 where
  pub risen : HasRisen before now
  pub once : now ≤ before + 1

-- a read that succeeds leaves the count as it was, and one that fails has it risen
abbrev pub CountsReadFaults : {T : Type 0} → ℕ → ℕ → Result T plain.Failed → Type 0
CountsReadFaults before now result = MatchResult result (λ _. now ≡ before) (λ _. HasRisenOnce before now)

-- the device failed, whatever the system said of it
abbrev pub HasFailed : {T : Type 0} → Result T OutFault → Type 0
HasFailed (Ok value) = ⊥
HasFailed (Err (Failed failure)) = ⊤
HasFailed (Err Memory) = ⊥

-- the count has risen where the device failed, and is as it was where memory ran out
abbrev pub CountsOutFault : ℕ → ℕ → OutFault → Type 0
CountsOutFault before now (Failed failure) = HasRisenOnce before now
CountsOutFault before now Memory = now ≡ before

-- the same of dials, which a run goes on after
abbrev pub CountsDialFault : ℕ → ℕ → OutFault → Type 0
CountsDialFault before now (Failed failure) = HasRisen before now
CountsDialFault before now Memory = now ≡ before

-- a call that succeeds leaves the count as it was, and so does want of memory; one that fails has it risen
abbrev pub CountsCall : {T : Type 0} → ℕ → ℕ → Result T OutFault → Type 0
CountsCall before now result = MatchResult result (λ _. now ≡ before) (CountsOutFault before now)
