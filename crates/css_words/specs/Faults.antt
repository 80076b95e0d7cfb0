-- Why words give no command.
use Rattle.std.specs.Prelude.{ℕ, List, codes}
use Rattle.clap.specs.declared.error.kind.ErrorKind.{ErrorKind}
use Rattle.clap.specs.declared.error.kind.ErrorKind.TheVariants.{OutOfMemory}
use Rattle.css_address.specs.declared.fault.AddressFault.{AddressFault}
use Rattle.css_address.specs.declared.fault.AddressFault.TheVariants as address
use Rattle.css_words.specs.declared.fault.WordsFault.{WordsFault}
use Rattle.css_words.specs.declared.fault.WordsFault.TheVariants.{Usage, Memory}

-- whatever a parse refuses, and a request for help too, is no command
abbrev pub parse_fault : ErrorKind → WordsFault
parse_fault OutOfMemory = Memory
parse_fault _ = Usage

-- the words of a fault
abbrev pub fault_words : WordsFault → List ℕ
fault_words Usage = codes "usage"
fault_words Memory = codes "out of memory"

-- a text that is no address is no option's value
abbrev pub address_fault : AddressFault → WordsFault
address_fault address.Bad = Usage
address_fault address.Memory = Memory
