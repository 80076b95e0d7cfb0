-- The words in which a fault is told.
use Rattle.std.specs.Prelude.{ℕ, ◌++◌, List, codes, decimal}
use Rattle.css_tree.specs.declared.fault.ClockFault.{ClockFault}
use Rattle.css_tree.specs.declared.fault.ClockFault.TheVariants as fault

-- the words of a fault
abbrev pub fault_words : ClockFault → List ℕ
fault_words (fault.NoSuch id) = codes "there is no clock " ++ decimal id
fault_words fault.Full = codes "there are 4096 clocks"
fault_words fault.Deep = codes "the clock would have more than 16 clocks above it"
fault_words (fault.Unavailable id) = codes "clock " ++ decimal id ++ codes " isn't available"
fault_words (fault.Stopped id) = codes "clock " ++ decimal id ++ codes " is stopped"
fault_words fault.NoCommon = codes "the two clocks have different roots"
fault_words (fault.Beyond id) = codes "the ticks of clock " ++ decimal id ++ codes " are out of range"
fault_words (fault.IsRoot id) = codes "clock " ++ decimal id ++ codes " is a root"
fault_words fault.Memory = codes "out of memory"
