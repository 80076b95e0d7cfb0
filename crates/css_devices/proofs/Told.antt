-- What is told where both clocks were read.
use Rattle.std.proofs.Common.{◌≡◌, Some, Result, Ok, Err, IfOk, OnOk}
use Rattle.css_outside.specs.declared.calls.Clocked.{Clocked}
use Rattle.css_devices.specs.declared.shown.Clocks.{Clocks}
use Rattle.css_devices.specs.Clocks.{Tallied, IsToldOf, clocked_of}

pub told_of : {E : Type 0} → (old new : Tallied) (clocks : Clocks) (result : Result Clocked E)
    → IfOk result (λ clocked. clocked ≡ clocked_of old clocks) → OnOk result (new.before ≡ Some clocks)
    → IfOk result (λ clocked. IsToldOf old new clocked)
told_of old new clocks (Ok clocked) told kept = record { clocks = clocks; told = told; kept = kept }
told_of old new clocks (Err fault) told kept = tt
