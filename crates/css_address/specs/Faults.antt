-- Why a text gives no address.
use Rattle.std.specs.Prelude.{ℕ, List, codes}
use Rattle.url.specs.declared.error.ParseError.{ParseError}
use Rattle.url.specs.declared.error.ParseError.TheVariants.{Overflow, OutOfMemory}
use Rattle.css_address.specs.declared.fault.AddressFault.{AddressFault}
use Rattle.css_address.specs.declared.fault.AddressFault.TheVariants.{Bad, Memory}

-- A text that is no URL is no address. One whose URL comes to 4 GB is told as want of memory.
abbrev pub parse_fault : ParseError → AddressFault
parse_fault OutOfMemory = Memory
parse_fault Overflow = Memory
parse_fault _ = Bad

-- the words of a fault
abbrev pub fault_words : AddressFault → List ℕ
fault_words Bad = codes "bad address"
fault_words Memory = codes "out of memory"
