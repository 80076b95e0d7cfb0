-- The faults of texts.
use Rattle.std.specs.Prelude.{Result, Ok, Err}
use Rattle.css_text.specs.declared.faults.TextFault.{TextFault}
use Rattle.css_text.specs.declared.faults.TextFault.TheVariants as text
use Rattle.css_tsmsg.specs.declared.fault.TsFault.{TsFault}
use Rattle.css_tsmsg.specs.declared.fault.TsFault.TheVariants as fault

-- the fault of a text that is no object
abbrev pub text_fault : TextFault → TsFault
text_fault text.NotJson = fault.NotJson
text_fault text.NotObject = fault.NotObject
text_fault text.Memory = fault.Memory

-- what comes of a value, or the fault that came in its place
abbrev pub and_then : {T U : Type 0} → Result T TsFault → (T → Result U TsFault) → Result U TsFault
and_then (Err fault) go_on = Err fault
and_then (Ok value) go_on = go_on value

-- a result that isn't want of memory
abbrev pub NotMemory : {T : Type 0} → Result T TsFault → Type 0
NotMemory (Ok value) = Unit {0}
NotMemory (Err fault.Memory) = ⊥
NotMemory (Err fault.NotJson) = Unit {0}
NotMemory (Err fault.NotObject) = Unit {0}
NotMemory (Err fault.Fractional) = Unit {0}
NotMemory (Err (fault.Field name)) = Unit {0}
NotMemory (Err (fault.Range name)) = Unit {0}
