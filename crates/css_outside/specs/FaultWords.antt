-- The words in which a fault is told.
use Rattle.std.specs.Prelude.{ℕ, List, codes}
use Rattle.css_outside.specs.declared.fault.OutFault.{OutFault}
use Rattle.css_outside.specs.declared.fault.OutFault.TheVariants as fault

-- the words of a fault
abbrev pub fault_words : OutFault → List ℕ
fault_words (fault.Failed failure) = codes "the device failed"
fault_words fault.Memory = codes "out of memory"
