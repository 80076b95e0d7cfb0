-- How a run may end, and what is counted then.
use Rattle.std.specs.Prelude.{◌≡◌, ◌≤◌, ℕ, Option, Some, None, ⊤}
use Rattle.css_model.specs.History.{History}
use Rattle.css_outside.specs.Faults.{HasRisen, HasRisenOnce}
use Rattle.css_drive.specs.Proper.{Due, Ends}
use Rattle.css_drive.specs.declared.driven.Driven.{Driven}
use Rattle.css_drive.specs.declared.driven.Driven.TheVariants as driven

-- what the outside tells, if it tells it, is this history
abbrev pub Told : Option History → History → Type 0
Told None history = ⊤
Told (Some told) history = told ≡ history

-- A run that has this due may end so. A fault of a device, or want of memory, ends it at any time, and else it ends
-- exactly as it is due.
abbrev pub MayEnd : Due → Driven → Type 0
MayEnd due (driven.NetFault failure) = ⊤
MayEnd due driven.WriteFault = ⊤
MayEnd due driven.Memory = ⊤
MayEnd due driven.Done = due ≡ Ends driven.Done
MayEnd due (driven.BadLine line why) = due ≡ Ends (driven.BadLine line why)
MayEnd due (driven.BadCii text fault) = due ≡ Ends (driven.BadCii text fault)
MayEnd due (driven.Moved property old new) = due ≡ Ends (driven.Moved property old new)
MayEnd due (driven.Spent turns) = due ≡ Ends (driven.Spent turns)
MayEnd due (driven.Unreachable turns) = due ≡ Ends (driven.Unreachable turns)
MayEnd due (driven.BadUrl property) = due ≡ Ends (driven.BadUrl property)

-- a call of the outside other than a dial failed
abbrev pub IsNetFault : Driven → Type 0
IsNetFault (driven.NetFault failure) = ⊤
IsNetFault _ = ⊥

-- The count of faults of calls other than dials has risen by one at `NetFault`, and is as before at every other end.
abbrev pub CountsNetFault : ℕ → ℕ → Driven → Type 0
CountsNetFault before now (driven.NetFault failure) = HasRisenOnce before now
CountsNetFault before now _ = now ≡ before

-- The sink's count of faults has risen by one at `WriteFault`, and is as before at every other end.
abbrev pub CountsWriteFault : ℕ → ℕ → Driven → Type 0
CountsWriteFault before now driven.WriteFault = HasRisenOnce before now
CountsWriteFault before now _ = now ≡ before

-- Where no dial succeeded, the count of failed dials has risen. It never falls.
abbrev pub CountsDialFaults : ℕ → ℕ → Driven → Type 0
CountsDialFaults before now (driven.Unreachable turns) = HasRisen before now
CountsDialFaults before now _ = before ≤ now
