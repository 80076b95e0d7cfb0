-- The words in which a fault is told.
use Rattle.std.specs.Prelude.{ℕ, List, codes}
use Rattle.css_model.specs.declared.WcFault.{WcFault}
use Rattle.css_model.specs.declared.WcFault.TheVariants as fault

-- the words of a fault
abbrev pub fault_words : WcFault → List ℕ
fault_words fault.Length = codes "there are fewer or more than 32 bytes"
fault_words fault.Version = codes "the version isn't 0"
fault_words fault.MessageType = codes "the message type is above 3"
fault_words fault.Precision = codes "the precision is above 30"
fault_words fault.Error = codes "the declared error is above 25600000"
fault_words fault.Nanoseconds = codes "there are 1000000000 nanoseconds or more"
