-- The words in which a fault is told.
use Rattle.std.specs.Prelude.{ℕ, List, codes}
use Rattle.css_text.specs.declared.faults.TextFault.{TextFault}
use Rattle.css_text.specs.declared.faults.TextFault.TheVariants as fault

-- the words of a fault
abbrev pub fault_words : TextFault → List ℕ
fault_words fault.NotJson = codes "not json"
fault_words fault.NotObject = codes "not object"
fault_words fault.Memory = codes "out of memory"
