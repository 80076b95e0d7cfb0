-- The words in which a fault is told.
use Rattle.std.specs.Prelude.{ℕ, ◌++◌, List, codes, decimal}
use Rattle.css_cii.specs.FaultWords as texts
use Rattle.css_cii.specs.Names.{json_name}
use Rattle.css_companion.specs.declared.fault.CompanionFault.{CompanionFault}
use Rattle.css_companion.specs.declared.fault.CompanionFault.TheVariants as fault

-- the words of a fault
abbrev pub fault_words : CompanionFault → List ℕ
fault_words (fault.BadCii number reason) = codes "cii text " ++ decimal number ++ codes ": " ++ texts.fault_words reason
fault_words (fault.Moved property old new) = codes "moved " ++ json_name property
fault_words fault.Memory = codes "out of memory"
